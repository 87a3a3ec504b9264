-- A gap in the used front of a list is closed.
use Rattle.std.proofs.Common.{◌≡◌, ℕ, suc, ◌+◌, ◌-◌, ◌<◌, ◌≤◌, List, ◌++◌, length, take, drop, sym, add-one, arith}
use Rattle.std.specs.List.{copy_within, remove}
use Rattle.std.proofs.lemmas.List.{drop-take, length-append, length-drop, length-take-le, take_at, take-take}
use Rattle.std.proofs.lemmas.Bool.{le-leb, and_from, cond-true}
use Rattle.catalog.specs.Gaps.{closed}

-- a gap that is among the first items
closed_is : {X : Type 0} (xs : List X) (at len used : ℕ) → used ≤ length xs → at ≤ used → len ≤ used - at → closed xs at len used ≡ take at xs ++ drop (at + len) (take used xs) ++ drop (used - len) xs
closed_is xs at len used a b c =
    cond-true _ _ _ (and_from _ _ (le-leb used (length xs) a) (and_from _ _ (le-leb at used b) (le-leb len (used - at) c)))

-- what lies behind the gap is copied down
pub copied_is_closed : {X : Type 0} (xs : List X) (at len used : ℕ) → used ≤ length xs → at ≤ used → len ≤ used - at → copy_within xs (at + len) used at ≡ closed xs at len used
copied_is_closed xs at len used a b c =
    let k : ℕ = used - (at + len) in
    let n : at + len + k ≡ used = omega arith in
    let m : at + k ≡ used - len = omega arith in
    let d = drop-take (at + len) k xs in
    let t : take k (drop (at + len) xs) ≡ drop (at + len) (take used xs) = sym (rw n at d) in
    let opened = closed_is xs at len used a b c in
    cc

-- the gap of one item, and the front that is then one shorter
pub one_out : {X : Type 0} (rows : List X) (used i : ℕ) → used ≤ length rows → i < used → take (used - 1) (closed rows i 1 used) ≡ remove (take used rows) i
one_out rows used i few lt =
    let opened = closed_is rows i 1 used few (omega arith) (omega arith) in
    let front : take i (take used rows) ≡ take i rows = take-take i used rows (omega arith) in
    let l : length (take used rows) ≡ used = length-take-le used rows few in
    let a : length (take i rows) ≡ i = length-take-le i rows (omega arith) in
    let n : length (take i rows ++ drop (i + 1) (take used rows)) ≡ used - 1 = simp (length-append, length-drop) (omega arith) in
    let t : take (used - 1) (take i rows ++ drop (i + 1) (take used rows) ++ drop (used - 1) rows) ≡ take i rows ++ drop (i + 1) (take used rows) = take_at _ _ (used - 1) n in
    let one : i + 1 ≡ suc i = add-one i in
    cc
