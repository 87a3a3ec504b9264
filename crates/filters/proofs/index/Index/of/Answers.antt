use Rattle.std.proofs.Common.{◌≡◌, length, take, arith, length-take-le}
use Rattle.filters.proofs.Numbering.{front_small, front_chained}
use Rattle.filters.proofs.index.Index.of.Goals as goal

pub chain-requires : goal.chain-requires
chain-requires c =
    let k : length c.number_all.new.out ≡ 1024 = c.number_all.ensures.keeps in
    let n : length (take c.starts.result c.number_all.new.out) ≡ c.starts.result = length-take-le c.starts.result c.number_all.new.out (omega (arith, c.starts.ensures, c.requires)) in
    record {
      few = omega (arith, c.starts.ensures, c.requires);
      small = λ i h. front_small c.args.shape.size c.args.shape.gap c.args.codes.now _ c.number_all.new.out c.starts.result i c.number_all.ensures c.starts.ensures (omega arith);
    }

pub returns : goal.returns
returns c =
    let k : length c.number_all.new.out ≡ 1024 = c.number_all.ensures.keeps in
    front_chained c.args.shape.size c.args.shape.gap c.args.codes.now _ c.number_all.new.out c.starts.result c.chain.result.heads c.chain.result.links
    c.number_all.ensures c.starts.ensures (omega (arith, c.starts.ensures, c.requires)) c.chain.ensures
