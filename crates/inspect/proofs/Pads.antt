-- How the count of padded numbers goes through a file. Assumes nothing.
use Rattle.std.proofs.Common.{◌≡◌, ℕ, ◌+◌, ◌<◌, ◌≤◌, Bool, true, false, cond, ◌&&◌, eqb, leb, List, [], ◌∷◌, ◌++◌, length, take, drop, sym, refl, ap, ◌∙◌, subst, not-suc-le-zero, arith}
use Rattle.std.proofs.lemmas.Bool.{and_left, and_right, le-leb, lt-leb, ne_eqb}
use Rattle.std.proofs.lemmas.Iterator.{YieldsList}
use Rattle.std.proofs.lemmas.Iterator.Splits.{YieldsList-from_shown_while}
use Rattle.std.specs.List.{flat_map, filter}
use Rattle.std.specs.Slice.Iter.{windows_rest, windows_size, windows_steps}
use Rattle.trace.specs.Numbers.{SevenBits, spelled}
use Rattle.inspect.specs.Paddings.{one_if, pads, pads_pair, padded, last_group, is_padded, padded_numbers, AllGroups, CountsPadded}

-- the neighbours, two by two
abbrev pub neighbours : List ℕ → List (List ℕ)
neighbours [] = []
neighbours (a ∷ []) = []
neighbours (a ∷ b ∷ bs) = (a ∷ b ∷ []) ∷ neighbours (b ∷ bs)

counted : (b : Bool) (l : List ℕ) (ls : List (List ℕ)) → pads_pair l ≡ b → length (filter pads_pair (l ∷ ls)) ≡ one_if b + length (filter pads_pair ls)
counted true l ls is = let e = ap (λ b. length (cond b (l ∷ filter pads_pair ls) (filter pads_pair ls))) is in omega (arith, e)
counted false l ls is = let e = ap (λ b. length (cond b (l ∷ filter pads_pair ls) (filter pads_pair ls))) is in omega (arith, e)

pub neighbours_padded : (bs : List ℕ) → length (filter pads_pair (neighbours bs)) ≡ padded bs
neighbours_padded [] = refl
neighbours_padded (a ∷ []) = refl
neighbours_padded (a ∷ b ∷ bs) = counted (pads a b) (a ∷ b ∷ []) (neighbours (b ∷ bs)) refl ∙ ap (λ n. one_if (pads a b) + n) (neighbours_padded (b ∷ bs))

no_more : (bs : List ℕ) → length bs < 2 → length (neighbours bs) ≡ 0
no_more [] h = refl
no_more (b ∷ []) h = refl
no_more (a ∷ b ∷ bs) h = absurd (omega arith)

one_more : (bs x rest : List ℕ) → 2 ≤ length bs → x ≡ take 2 bs → rest ≡ drop 1 bs → neighbours bs ≡ x ∷ neighbours rest
one_more [] x rest h is on = absurd (omega arith)
one_more (b ∷ []) x rest h is on = absurd (omega arith)
one_more (a ∷ b ∷ bs) x rest h is on = sym (λ i. is i ∷ neighbours (on i))

-- windows of two are the neighbours
pub windows_are : (s : _) (bs : List ℕ) → windows_rest s ≡ bs → windows_size s ≡ 2 → YieldsList windows_steps (λ x. x.now) s (neighbours bs)
windows_are s bs is two =
    subst (λ l. YieldsList windows_steps (λ x. x.now) s (neighbours l)) is
    (YieldsList-from_shown_while windows_steps (λ x. x.now) (λ s. neighbours (windows_rest s)) (λ s. windows_size s ≡ 2)
    (λ s t size h. no_more (windows_rest s) (omega (arith, size, h.1.0)))
    (λ s x t size h. (h.0 ∙ size, one_more (windows_rest s) x.now (windows_rest t) (omega (arith, size, h.1.0)) (h.1.1 ∙ ap (λ n. take n (windows_rest s)) size) h.1.2)) s two)

last_byte : (a b : ℕ) → a < 128 → one_if (pads a b) ≡ 0
last_byte a b end = ap one_if (and_left (leb 128 a) (eqb b 0) (lt-leb 128 a end))

group_here : (a b : ℕ) → (b ≡ 0 → ⊥) → one_if (pads a b) ≡ 0
group_here a b some = ap one_if (and_right (leb 128 a) (eqb b 0) (ne_eqb b 0 some))

-- a byte that says that none follows pads nothing
behind_last : (g : ℕ) (rest : List ℕ) → g < 128 → padded (g ∷ rest) ≡ padded rest
behind_last g [] low = refl
behind_last g (b ∷ bs) low = omega (arith, last_byte g b low)

two_or_more : (g : ℕ) (gs : List ℕ) → 1 ≤ length gs → leb 2 (length (g ∷ gs)) ≡ true
two_or_more g gs some = le-leb 2 (length (g ∷ gs)) (omega arith)

-- one spelled number
number_padded : (gs rest : List ℕ) → 1 ≤ length gs → SevenBits gs → padded (spelled gs ++ rest) ≡ one_if (is_padded gs) + padded rest
number_padded [] rest some each = absurd (not-suc-le-zero some)
number_padded (g ∷ []) rest some each = omega (arith, behind_last g rest each.0)
number_padded (g ∷ h ∷ []) rest some each =
    let more : pads (g + 128) h ≡ eqb h 0 = ap (λ b. b && eqb h 0) (le-leb 128 (g + 128) (omega arith)) in
    ap (λ b. one_if b + padded (h ∷ rest)) more ∙ ap (λ n. one_if (eqb h 0) + n) (behind_last h rest each.1.0)
number_padded (g ∷ h ∷ k ∷ gs) rest some each =
    let same : is_padded (h ∷ k ∷ gs) ≡ is_padded (g ∷ h ∷ k ∷ gs) = ap (λ b. b && eqb (last_group (k ∷ gs)) 0) (two_or_more h (k ∷ gs) (omega arith) ∙ sym (two_or_more g (h ∷ k ∷ gs) (omega arith))) in
    omega (arith, group_here (g + 128) (h + 128) (λ e. omega arith), number_padded (h ∷ k ∷ gs) rest (omega arith) each.1, ap one_if same)

pub numbers_padded : (gss : List (List ℕ)) → AllGroups gss → padded (flat_map spelled gss) ≡ padded_numbers gss
numbers_padded [] all = refl
numbers_padded (gs ∷ gss) all = number_padded gs (flat_map spelled gss) all.0.some all.0.each ∙ ap (λ n. one_if (is_padded gs) + n) (numbers_padded gss all.1)

pub counts_padded : (file : List ℕ) (n : ℕ) → n ≡ padded file → CountsPadded file n
counts_padded file n is gss all spells = is ∙ ap padded spells ∙ numbers_padded gss all
