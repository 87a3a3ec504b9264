-- What the catalogue's calls answer and leave. Assumes nothing.
use Rattle.std.specs.Prelude.{◌≡◌, ℕ, suc, ◌+◌, ◌<◌, cond, ◌||◌, List, [], ◌∷◌, ◌++◌, length, take, Some, None, Ok, Err, Result, ◌==◌, nat_le, nat_lt, slice_index_or}
use Rattle.catalog.specs.declared.row.Row.{Row}
use Rattle.catalog.specs.declared.row.Count.{Count}
use Rattle.catalog.specs.declared.catalog.Catalog.{Catalog}
use Rattle.catalog.specs.declared.refusal.Refusal.{Refusal}
use Rattle.catalog.specs.declared.refusal.Refusal.TheVariants.{BadMemory, OtherMemory, TooManyTraces, NumbersSpent, StoreFull, ListFull, NoTrace}
use Rattle.catalog.specs.Rows.{blank, found_at, samples_in, pairs_in, recounted, pairs_of_counts}

-- the rows in use
abbrev pub standing : Catalog → List Row
standing c = take c.used c.rows

-- the row that has a number, with its place; or there is none
abbrev pub RowUnder : Catalog → ℕ → Result (ℕ × Row) Refusal → Type 0
RowUnder c n (Ok found) =
    (Some found.0 ≡ found_at n (standing c)) × (found.0 < length (standing c)) × (found.1 ≡ slice_index_or (standing c) found.0 blank)
RowUnder c n (Err e) = (None ≡ found_at n (standing c)) × (e ≡ NoTrace)

-- lengths and the last number given are as they were
pub record SameSizes (c c' : Catalog) : Type 0 where
  pub store : c'.store ≡ c.store
  pub list : c'.list ≡ c.list
  pub given : c'.given ≡ c.given

-- an empty catalogue, for lengths that an opening takes
abbrev pub sized : ℕ → ℕ → Result (Unit {0}) Refusal
sized store list = cond (store == 0 || (nat_lt 65535 store || (list == 0 || nat_lt 16384 list))) (Err BadMemory) (Ok tt)

pub record Empty (stored listed : ℕ) (c : Catalog) : Type 0 where
  pub rows : standing c ≡ []
  pub given : c.given ≡ 0
  pub store : c.store ≡ stored
  pub list : c.list ≡ listed

abbrev pub Sized : ℕ → ℕ → Result Catalog Refusal → Type 0
Sized store list (Ok c) = (sized store list ≡ Ok tt) × Empty store list c
Sized store list (Err e) = sized store list ≡ Err e

-- the new row's number, or the first reason against it
abbrev pub admitted : List Row → ℕ → ℕ → ℕ → ℕ → Count → Result ℕ Refusal
admitted rs given store list length' count =
    cond (nat_lt 4096 length') (Err OtherMemory)
    (cond (nat_le 256 (length rs)) (Err TooManyTraces)
    (cond (nat_le 65535 given) (Err NumbersSpent)
    (cond (nat_lt store (samples_in rs + length')) (Err StoreFull)
    (cond (nat_lt list (pairs_in rs + count.pairs)) (Err ListFull)
    (Ok (suc given))))))

abbrev pub new_row : ℕ → ℕ → ℕ → Count → Row
new_row number machine length' count = record { number = number; machine = machine; length = length'; loans = 0; pairs = count.pairs; places = count.places }

-- a row came in under the number n, and nothing else changed
pub record Pushed (c : Catalog) (machine length' : ℕ) (count : Count) (c' : Catalog) (n : ℕ) : Type 0 where
  pub rows : standing c' ≡ standing c ++ (new_row n machine length' count ∷ [])
  pub given : c'.given ≡ n
  pub store : c'.store ≡ c.store
  pub list : c'.list ≡ c.list

-- answered as the checks say; a refusal changes nothing
abbrev pub Admitted : Catalog → ℕ → ℕ → Count → Catalog → Result ℕ Refusal → Type 0
Admitted c machine length' count c' (Ok n) =
    (admitted (standing c) c.given c.store c.list length' count ≡ Ok n) × Pushed c machine length' count c' n
Admitted c machine length' count c' (Err e) =
    (admitted (standing c) c.given c.store c.list length' count ≡ Err e) × (c' ≡ c)

abbrev pub recount_verdict : List Row → ℕ → List Count → Result (Unit {0}) Refusal
recount_verdict rs list cs =
    cond (nat_lt (length cs) (length rs)) (Err OtherMemory)
    (cond (nat_lt list (pairs_of_counts (take (length rs) cs))) (Err ListFull) (Ok tt))

abbrev pub Recounted : Catalog → List Count → Catalog → Result (Unit {0}) Refusal → Type 0
Recounted c cs c' (Ok u) = (recount_verdict (standing c) c.list cs ≡ Ok tt) × (standing c' ≡ recounted (standing c) cs) × SameSizes c c'
Recounted c cs c' (Err e) = (recount_verdict (standing c) c.list cs ≡ Err e) × (c' ≡ c)
