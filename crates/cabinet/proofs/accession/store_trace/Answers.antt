use Rattle.std.proofs.Common.{◌≡◌, ℕ, ◌+◌, ◌-◌, length, take, drop, sym, ◌∙◌, subst, arith}
use borrow.Rule.Slice.PartMut.{put_mid}
use Rattle.cabinet.specs.Searching.{Stored-at}
use Rattle.cabinet.proofs.Filing.{written_rest}
use Rattle.cabinet.proofs.Arriving.{part_length, part_written}
use Rattle.cabinet.proofs.accession.store_trace.Goals as goal

pub returns : goal.returns
returns g c = λ t is count.
    let at = c.args.at in
    let store = c.args.store.now in
    let part = c.read_samples.new.out in
    let old = take (at + c.args.count - at) (drop at store) in
    let room : length old ≡ c.args.count = part_length store at c.args.count c.requires in
    let same : length part ≡ length old = c.read_samples.auto.out in
    let written = written_rest g.S.Sample.kind.fields t _ old part is (count ∙ sym room) same c.read_samples.ensures.put in
    let p = part_written g.S.Sample.kind.fields t.samples store part at (omega (arith, c.requires, count)) (same ∙ room ∙ sym count) written in
    let size : length t.samples ≡ at + c.args.count - at = omega arith in
    subst (λ (z : ℕ). Stored-at g.S.Sample.kind.fields at t.samples store (put_mid at z store part)) size (record { keeps = p.0; front = p.1; samples_are = p.2 })
