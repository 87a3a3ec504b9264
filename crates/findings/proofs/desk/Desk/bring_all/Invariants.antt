use Rattle.std.proofs.Common.{List, length}
use Rattle.cabinet.specs.Model.{Call}
use Rattle.findings.specs.Desks.{Keeps}
use Rattle.findings.proofs.Bringing.{Going}
use Rattle.findings.proofs.desk.Desk.bring_all.Given as goal

abbrev pub invariant-loop-files : goal.invariant-loop-files
invariant-loop-files g l =
    (h : List Call) → Keeps g.F.Filter.rule g.F.Filter.reaches g.F.Filter.stands h l.initial.self →
    Going g.F.Filter.rule g.F.Filter.reaches g.F.Filter.stands h l.initial.files.rest.now l.self l.files.rest.now

abbrev pub decreases-loop-files : goal.decreases-loop-files
decreases-loop-files g l = length l.files.rest.now
