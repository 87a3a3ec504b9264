-- The codes of samples, written to the front of a buffer.
use Rattle.std.proofs.Common.{◌≡◌, ℕ, ◌+◌, ◌<◌, ◌≤◌, List, [], ◌∷◌, ◌++◌, map, length, get_or, take, drop, set, sym, ap, ◌∙◌, subst, arith}
use Rattle.std.proofs.lemmas.List.{length-map, length-take-le, take_more, drop_more, set_at, map_push, append_assoc, take_all, take_at}

module _ {S : Type 0} (fields : S → List ℕ) (code : List ℕ → ℕ) where
  -- one code more at the front
  pub load_more : (xs : List S) (before cs : List ℕ) (i : ℕ) (x : S) (v : ℕ) → i < length xs → length xs ≤ length before → x ≡ get_or xs i x → v ≡ code (fields x) →
      cs ≡ map code (map fields (take i xs)) ++ drop i before →
      set cs i v ≡ map code (map fields (take (i + 1) xs)) ++ drop (i + 1) before
  load_more xs before cs i x v l room is coded e =
      let p : List ℕ = map code (map fields (take i xs)) in
      let rest : List ℕ = drop (i + 1) before in
      let n : length p ≡ i = length-map (map fields (take i xs)) code ∙ length-map (take i xs) fields ∙ length-take-le i xs (omega arith) in
      let d : drop i before ≡ get_or before i 0 ∷ rest = drop_more before i 0 (omega arith) in
      let t : take (i + 1) xs ≡ take i xs ++ (x ∷ []) = take_more xs i x l ∙ ap (λ (y : S). take i xs ++ (y ∷ [])) (sym is) in
      let m : map code (map fields (take (i + 1) xs)) ≡ p ++ (code (fields x) ∷ []) =
      ap (λ (ys : List S). map code (map fields ys)) t ∙ ap (map code) (map_push fields (take i xs) x) ∙ map_push code (map fields (take i xs)) (fields x) in
      ap (λ (ys : List ℕ). set ys i v) (e ∙ ap (λ (ys : List ℕ). p ++ ys) d)
      ∙ set_at p (get_or before i 0) rest v i n
      ∙ ap (λ (z : ℕ). p ++ (z ∷ rest)) coded
      ∙ sym (append_assoc p (code (fields x) ∷ []) rest)
      ∙ ap (λ (ys : List ℕ). ys ++ rest) (sym m)

  -- after the last
  pub load_all : (xs : List S) (before cs : List ℕ) (i : ℕ) → i ≡ length xs → cs ≡ map code (map fields (take i xs)) ++ drop i before → cs ≡ map code (map fields xs) ++ drop (length xs) before
  load_all xs before cs i end e =
      subst (λ (z : ℕ). cs ≡ map code (map fields (take i xs)) ++ drop z before) end e
      ∙ ap (λ (ys : List S). map code (map fields ys) ++ drop (length xs) before) (take_all i xs (omega arith))

  -- the front of the buffer is then the codes
  pub loaded : (xs : List S) (before cs : List ℕ) → cs ≡ map code (map fields xs) ++ drop (length xs) before → take (length xs) cs ≡ map code (map fields xs)
  loaded xs before cs e =
      ap (take (length xs)) e
      ∙ take_at (map code (map fields xs)) (drop (length xs) before) (length xs) (length-map (map fields xs) code ∙ length-map xs fields)
