use Rattle.std.proofs.Common.{◌≡◌, ◌++◌, map, take, drop}
use Rattle.cabinet.proofs.searching.load_codes.Given as goal

abbrev pub invariant-loop-i : goal.invariant-loop-i
invariant-loop-i g l = l.codes ≡ map g.S.Sample.kind.code (map g.S.Sample.kind.fields (take l.i l.samples)) ++ drop l.i l.initial.codes
