-- A list at the front of a longer memory, with zeros behind it.
use Rattle.std.proofs.Common.{◌≡◌, ℕ, zero, suc, ◌-◌, ◌<◌, ◌≤◌, List, ◌++◌, length, get_or, drop, replicate, sym, refl, ap, ◌∙◌, arith}
use borrow.Rule.Slice.PartMut.{put_mid}
use Rattle.std.proofs.lemmas.List.{length-append, length-replicate, take_at, drop_at, drop-replicate, append_assoc, append-nil, get_or_append_left, get_or-append_right}
use Rattle.search.specs.declared.matches.Match.{Match}
use Rattle.search.specs.Words.{no_match}
use Rattle.cabinet.specs.Words.{padded}

-- it fills the memory
pub padded_length : (n : ℕ) (xs : List Match) → length xs ≤ n → length (padded n xs) ≡ n
padded_length n xs h = omega (arith, length-append xs (replicate (n - length xs) no_match), length-replicate (n - length xs) no_match)

-- in a memory of just its length it has nothing behind it
pub padded_none : (l : List Match) → padded (length l) l ≡ l
padded_none l =
    let z : length l - length l ≡ 0 = omega arith in
    ap (λ (n : ℕ). l ++ replicate n no_match) z ∙ append-nil l

-- a list written behind it
pub padded_more : (n : ℕ) (xs ys : List Match) → put_mid (length xs) (length ys) (padded n xs) ys ≡ padded n (xs ++ ys)
padded_more n xs ys =
    let zeros : List Match = replicate (n - length xs) no_match in
    let e : n - length xs - length ys ≡ n - length (xs ++ ys) = omega (arith, length-append xs ys) in
    ap (λ (zs : List Match). zs ++ (ys ++ drop (length ys) (drop (length xs) (xs ++ zeros)))) (take_at xs zeros (length xs) refl)
    ∙ ap (λ (zs : List Match). xs ++ (ys ++ drop (length ys) zs)) (drop_at xs zeros (length xs) refl)
    ∙ ap (λ (zs : List Match). xs ++ (ys ++ zs)) (drop-replicate (length ys) (n - length xs) no_match)
    ∙ ap (λ (z : ℕ). xs ++ (ys ++ replicate z no_match)) e
    ∙ sym (append_assoc xs ys (replicate (n - length (xs ++ ys)) no_match))

-- its entries, and the zeros
pub padded_front : (n : ℕ) (l : List Match) (e : ℕ) → e < length l → get_or (padded n l) e no_match ≡ get_or l e no_match
padded_front n l e h = get_or_append_left l (replicate (n - length l) no_match) no_match e h

get_or_zeros : {A : Type 0} (n i : ℕ) (d : A) → get_or (replicate n d) i d ≡ d
get_or_zeros zero i d = refl
get_or_zeros (suc n) zero d = refl
get_or_zeros (suc n) (suc i) d = get_or_zeros n i d

pub padded_back : (n : ℕ) (l : List Match) (e : ℕ) → length l ≤ e → get_or (padded n l) e no_match ≡ no_match
padded_back n l e h = get_or-append_right l (replicate (n - length l) no_match) (length l) e no_match refl h ∙ get_or_zeros (n - length l) (e - length l) no_match
