-- The list of all matches is whole, over all traces: it follows from the list of each trace, as their numbers rise.
use Rattle.std.proofs.Common.{◌≡◌, ℕ, zero, suc, ◌-◌, ◌<◌, List, [], ◌∷◌, ◌++◌, length, get_or, replicate, sym, refl, ◌∙◌, subst, inl, inr, ⊎_elim, arith}
use Rattle.std.specs.List.{flat_map}
use Rattle.std.proofs.lemmas.List.{length-append}
use Rattle.trace.specs.Kinds.{Kind}
use Rattle.filters.specs.Matching.{Question}
use Rattle.search.specs.declared.matches.Match.{Match}
use Rattle.search.specs.Listing.{match_list}
use Rattle.search.specs.Words as one
use Rattle.search.proofs.Wording as one-trace
use Rattle.search.proofs.Wording.{In, in_place, place_in, in_left, in_right, in_either, list_whole}
use Rattle.cabinet.specs.Model.{Trace, codes_of}
use Rattle.cabinet.specs.Words.{no_trace, Before, Whole, all_matches, padded}
use Rattle.cabinet.proofs.Rising.{Up, up_above}
use Rattle.cabinet.proofs.Padding.{padded_front, padded_back}

-- what stands in joined lists stands in one of them, and what stands in one stands in them joined
in_joined : {A : Type 0} (f : Trace → List A) (ts : List Trace) (y : A) → In y (flat_map f ts) → (x : ℕ) × (x < length ts) × In y (f (get_or ts x no_trace))
in_joined f [] y m = absurd m
in_joined f (t ∷ ts) y m =
    ⊎_elim (λ (k : In y (f t)). (0, omega arith, k)) (λ (k : In y (flat_map f ts)). let w = in_joined f ts y k in (suc w.0, omega (arith, w.1), w.2))
    (in_either y (f t) (flat_map f ts) m)

joined_in : {A : Type 0} (f : Trace → List A) (ts : List Trace) (y : A) (x : ℕ) → x < length ts → In y (f (get_or ts x no_trace)) → In y (flat_map f ts)
joined_in f [] y x l m = let z : ⊥ = omega arith in absurd z
joined_in f (t ∷ ts) y zero l m = in_left y (f t) (flat_map f ts) m
joined_in f (t ∷ ts) y (suc x) l m = in_right y (f t) (flat_map f ts) (joined_in f ts y x (omega arith) m)

-- each entry is before all that follow
abbrev Rises : List Match → Type 0
Rises [] = Unit {0}
Rises (x ∷ xs) = ((y : Match) → In y xs → Before x y) × Rises xs

rises_join : (l k : List Match) → Rises l → Rises k → ((x y : Match) → In x l → In y k → Before x y) → Rises (l ++ k)
rises_join [] k a b h = b
rises_join (x ∷ xs) k a b h = (
  λ y m. ⊎_elim (λ (i : In y xs). a.0 y i) (λ (i : In y k). h x y (inl refl) i) (in_either y xs k m),
  rises_join xs k a.1 b (λ u v i j. h u v (inr i) j),
)

rises_place : (l : List Match) (e : ℕ) → Rises l → suc e < length l → Before (get_or l e one.no_match) (get_or l (suc e) one.no_match)
rises_place [] e r h = let z : ⊥ = omega arith in absurd z
rises_place (x ∷ []) e r h = let z : ⊥ = omega arith in absurd z
rises_place (x ∷ y ∷ ys) zero r h = r.0 y (inl refl)
rises_place (x ∷ y ∷ ys) (suc e) r h = rises_place (y ∷ ys) e r.1 (omega arith)

-- entries of one accession number rise if they rise by place
rises_one : (n : ℕ) (l : List Match) → ((x : Match) → In x l → x.accession ≡ n) → one-trace.Rises l → Rises l
rises_one n [] same r = tt
rises_one n (x ∷ xs) same r = (
  λ y m. inr (same x (inl refl) ∙ sym (same y (inr m)), r.0 y m),
  rises_one n xs (λ y m. same y (inr m)) r.1,
)

module _ {S : Type 0} (K : Kind S) (a : Question) where
  -- the matches of one trace
  abbrev of_trace : Trace → List Match
  of_trace t = match_list t.number K.agree a (codes_of K t)

  -- an entry of a trace bears its number, and is a match
  in_trace : (t : Trace) (x : Match) → In x (of_trace t) → one-trace.EntryFits K.agree a (codes_of K t) t.number x
  in_trace t x m =
      let w = in_place one.no_match x (of_trace t) m in
      subst (λ (z : Match). one-trace.EntryFits K.agree a (codes_of K t) t.number z) w.2 ((list_whole K.agree a (codes_of K t) t.number).only w.0 w.1)

  -- the entries rise by accession number, then by place
  rises_all : (low high : ℕ) (ts : List Trace) → Up low ts high → Rises (all_matches K a ts)
  rises_all low high [] u = tt
  rises_all low high (t ∷ ts) u =
      rises_join (of_trace t) (all_matches K a ts)
      (rises_one t.number (of_trace t) (λ x m. (in_trace t x m).0) (one-trace.rises_rows t.number K.agree a (codes_of K t) 0 (length (codes_of K t))))
      (rises_all t.number high ts u.1)
      (λ x y m k.
      let w = in_joined of_trace ts y k in
      let o : ℕ = (get_or ts w.0 no_trace).number in
      let p : x.accession ≡ t.number = (in_trace t x m).0 in
      let q : y.accession ≡ o = (in_trace (get_or ts w.0 no_trace) y w.2).0 in
      let r : t.number < o = up_above t.number high ts u.1 w.0 w.1 in
      inl (omega arith))

  -- all matches, in a memory of any length, are whole
  pub all_whole : (n low high : ℕ) (ts : List Trace) → Up low ts high → Whole K a ts (padded n (all_matches K a ts)) (length (all_matches K a ts))
  all_whole n low high ts u =
      let l : List Match = all_matches K a ts in
      record {
        fits = omega (arith, length-append l (replicate (n - length l) one.no_match));
        every = λ x h i j d m.
            let t : Trace = get_or ts x no_trace in
            let w = (list_whole K.agree a (codes_of K t) t.number).every i j d m in
            let k = joined_in of_trace ts (get_or (of_trace t) w.0 one.no_match) x h (place_in one.no_match (of_trace t) w.0 w.1) in
            let p = in_place one.no_match (get_or (of_trace t) w.0 one.no_match) l k in
            (p.0, p.1, padded_front n l p.0 p.1 ∙ (p.2 ∙ w.2));
        only = λ e h.
            let w = in_joined of_trace ts (get_or l e one.no_match) (place_in one.no_match l e h) in
            let t : Trace = get_or ts w.0 no_trace in
            let f = subst (λ (z : Match). one-trace.EntryFits K.agree a (codes_of K t) t.number z) (sym (padded_front n l e h)) (in_trace t (get_or l e one.no_match) w.2) in
            (w.0, w.1, f.0, f.1);
        rising = λ e h.
            let b = rises_place l e (rises_all low high ts u) h in
            subst (λ (z : Match). Before z (get_or (padded n l) (suc e) one.no_match)) (sym (padded_front n l e (omega arith)))
            (subst (λ (z : Match). Before (get_or l e one.no_match) z) (sym (padded_front n l (suc e) h)) b);
        zeros = λ e h. padded_back n l e h;
      }
