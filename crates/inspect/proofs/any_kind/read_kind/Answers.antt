use Rattle.std.proofs.Common.{◌≤◌, length, drop, Err, sym, ap, ◌∙◌, arith}
use Rattle.trace.specs.Refusals.{told}
use Rattle.trace.specs.Reading.{head}
use Rattle.inspect.proofs.Faults.{refused, in_file, read}
use Rattle.inspect.proofs.any_kind.read_kind.Goals as goal

pub fault_of-requires : goal.fault_of-requires
fault_of-requires g c =
    let kind = g.S.Sample.kind in
    let room : 4096 ≤ length c.as_mut_slice.result.now = omega (arith, c.as_mut_slice.ensures.len, c.in_ok-samples.ensures.len) in
    in_file kind.number kind.tops c.args.file.now (length c.as_mut_slice.result.now) room (told c.in-Err.refusal) c.in-Err.ensures.is

pub returns-in-Ok : goal.returns-in-Ok
returns-in-Ok g c =
    let kind = g.S.Sample.kind in
    let places = c.as_mut_slice.result.now in
    let out = c.read_samples.new.out in
    let samples = c.in_ok-samples.samples in
    let room : 4096 ≤ length places = omega (arith, c.as_mut_slice.ensures.len, c.in_ok-samples.ensures.len) in
    record {
      is = read kind.number kind.tops c.args.file.now (length places) room kind.fields (head c.in-Ok.header) places out (drop (length out) samples.items) _ samples.len
          c.in-Ok.ensures.is c.in-Ok.ensures.put (c.read_samples.auto.out ∙ c.as_mut_slice.ensures.len) c.truncate.ensures.items;
    }

pub returns-in-Err : goal.returns-in-Err
returns-in-Err g c =
    let kind = g.S.Sample.kind in
    let room : 4096 ≤ length c.as_mut_slice.result.now = omega (arith, c.as_mut_slice.ensures.len, c.in_ok-samples.ensures.len) in
    record { is = ap Err c.fault_of.ensures.is ∙ sym (refused kind.number kind.tops c.args.file.now (length c.as_mut_slice.result.now) room (told c.in-Err.refusal) c.in-Err.ensures.is) }
