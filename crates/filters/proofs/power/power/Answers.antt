use Rattle.std.proofs.Common.{ℕ, zero, suc, ◌*◌, ◌%◌, ◌^◌, Bool, eqb, List, [], ◌∷◌, eqb→eq}
use Rattle.filters.proofs.Entries.{at}
use Rattle.filters.proofs.power.power.Goals as goal

-- the table of the code, made entry by entry
abbrev entries : ℕ → ℕ → List ℕ
entries zero x = []
entries (suc n) x = x ∷ entries n (x * 640 % 1021)

abbrev right : ℕ → ℕ → Bool
right k x = eqb x (640 ^ k % 1021)

pub returns : goal.returns
returns c = eqb→eq _ _ (at right (entries 512 1) tt c.args.i c.requires)
