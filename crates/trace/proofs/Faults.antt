-- A file that has a first fault is refused with it. Assumes nothing.
use Rattle.std.proofs.Common.{◌≡◌, ℕ, zero, suc, ◌+◌, ◌-◌, ◌<◌, ◌≤◌, leb, List, [], ◌∷◌, ◌++◌, length, take, drop, Err, sym, refl, ap, ◌∙◌, subst, ⊎_elim, not-suc-le-zero, arith, length-drop}
use Rattle.std.proofs.lemmas.Bool.{cond-false, and_left, and_right, lt-leb, le-ltb, ne_eqb}
use Rattle.trace.specs.Told.{Told, fault}
use Rattle.trace.specs.Kinds.{kinds, Within}
use Rattle.trace.specs.Numbers.{none, number, scaled}
use Rattle.trace.specs.Files.{ranged, number_at, fields_at, samples_at, of_kind, trace_file}
use Rattle.trace.specs.Spelling.{Spells, flat, numbers, Due, due_kind, due_machine, due_count, due_field, Follow, Wrong, cut, long, range, FirstFault, wrong, other, left}
use Rattle.trace.proofs.Chains.{then_ok, then_err, head_broke, head_uncounted, no_head, no_samples, left_over}
use Rattle.trace.proofs.Spelling.{begins_found, number_gives, fields_give, spells_split, samples_give, head_gives, upto}

-- bytes that all say that another follows, fewer than a number may have
follow_cut : (n : ℕ) (bytes : List ℕ) → length bytes < n → Follow bytes → number n bytes ≡ none 4
follow_cut zero bytes h f = absurd (not-suc-le-zero h)
follow_cut (suc n) [] h f = refl
follow_cut (suc n) (b ∷ bs) h f = cond-false _ _ _ (le-ltb b 128 f.0) ∙ ap (scaled (b - 128)) (follow_cut n bs (omega arith) f.1)

-- or as many
follow_long : (n : ℕ) (bytes : List ℕ) → n ≤ length bytes → Follow (take n bytes) → number n bytes ≡ none 5
follow_long zero bytes h f = refl
follow_long (suc n) [] h f = absurd (not-suc-le-zero h)
follow_long (suc n) (b ∷ bs) h f = cond-false _ _ _ (le-ltb b 128 f.0) ∙ ap (scaled (b - 128)) (follow_long n bs (omega arith) f.1)

-- a number that is wrong is refused where it begins
pub wrong_number : (low high f cause : ℕ) (file : List ℕ) (at : ℕ) → Wrong low high (drop at file) cause → number_at low high f file at ≡ Err (fault cause at f)
wrong_number low high f cause file at (cut h w) = ap (ranged low high f at) (follow_cut 3 (drop at file) h w)
wrong_number low high f cause file at (long h w) = ap (ranged low high f at) (follow_long 3 (drop at file) h w)
wrong_number low high f cause file at (range v rest b o) =
    ap (ranged low high f at) (begins_found v (drop at file) rest b) ∙ cond-false _ _ _ (⊎_elim (λ h. and_left _ _ (lt-leb low v h)) (λ h. and_right (leb low v) _ (lt-leb v high h)) o)

-- two places with the same bytes behind them are one
same_place : (file : List ℕ) (a b : ℕ) → a ≤ length file → b ≤ length file → drop a file ≡ drop b file → a ≡ b
same_place file a b la lb e = omega (arith, length-drop a file, length-drop b file, ap length e)

module _ (kind : ℕ) (tops file : List ℕ) (k1 : 1 ≤ kind) (k2 : kind ≤ kinds) where
  -- a wrong field of a sample, behind the fields before it
  field_wrong : (part before later : List ℕ) (top at place : ℕ) (e : Told) → at ≤ length file → place ≤ length file → Within part before → tops ≡ before ++ (top ∷ later) → Spells part (drop at file) (drop place file) → number_at 0 top 3 file place ≡ Err e → fields_at tops [] file at ≡ Err e
  field_wrong part before later top at place e la lp w is s bad =
      let g = fields_give file before (top ∷ later) [] part at (drop place file) la w s in
      let here : g.0 ≡ place = same_place file g.0 place g.2 lp g.3 in
      ap (λ ts. fields_at ts [] file at) is ∙ g.1 ∙ ap (λ p. fields_at (top ∷ later) part file p) here ∙ then_err (λ r. fields_at later (part ++ (r.value ∷ [])) file r.next) bad

  -- a wrong number, by what is due
  due_wrong : (before : List ℕ) (f low high place : ℕ) (e : Told) → Due kind tops before f low high → place ≤ length file → Spells before file (drop place file) → number_at low high f file place ≡ Err e → trace_file kind tops file ≡ Err e
  due_wrong before f low high place e due_kind lp s bad =
      let here : 0 ≡ place = same_place file 0 place (omega arith) lp s in
      no_head kind tops file (then_err (of_kind kind file) (ap (number_at 1 kinds 0 file) here ∙ bad))
  due_wrong before f low high place e due_machine lp s bad =
      let a = number_gives file 1 kinds 0 0 kind s.0 s.1 k1 k2 in
      let here : a.next ≡ place = same_place file a.next place a.lies lp (a.left ∙ s.2) in
      no_head kind tops file (head_broke kind file _ a.is refl (ap (number_at 1 65535 1 file) here ∙ bad))
  due_wrong before f low high place e (due_count machine m) lp s bad =
      let a = number_gives file 1 kinds 0 0 kind s.0 s.1 k1 k2 in
      let t = subst (λ l. Spells (machine ∷ []) l (drop place file)) (sym a.left) s.2 in
      let b = number_gives file 1 65535 1 a.next machine t.0 t.1 m.0 m.1 in
      let here : b.next ≡ place = same_place file b.next place b.lies lp (b.left ∙ t.2) in
      no_head kind tops file (head_uncounted kind file _ a.is refl _ b.is (ap (number_at 1 4096 2 file) here ∙ bad))
  due_wrong numbers f low high place e (due_field machine count samples part before top later m c all few w is) lp s bad =
      let p = spells_split (kind ∷ machine ∷ count ∷ []) (flat samples ++ part) file (drop place file) s in
      let h = head_gives kind machine count file p.0 k1 k2 m c p.1 in
      let q = spells_split (flat samples) part (drop h.next file) (drop place file) (subst (λ l. Spells (flat samples ++ part) l (drop place file)) (sym h.left) p.2) in
      let n = count - (length samples + 1) in
      let b = samples_give file tops (suc n) [] samples h.next q.0 h.lies all q.1 in
      let sample = field_wrong part before later top b.0 place e b.2 lp w is (subst (λ l. Spells part l (drop place file)) (sym b.3) q.2) bad in
      no_samples kind tops file _ h.is (ap (λ k. samples_at tops k [] file h.next) {x = count} {y = length samples + suc n} (omega arith) ∙ b.1 ∙ then_err (λ r. samples_at tops n (samples ++ (r.value ∷ [])) file r.next) sample)

  pub faulty : (e : Told) → FirstFault kind tops file e → trace_file kind tops file ≡ Err e
  faulty e (wrong before f low high place cause due lp s w) = due_wrong before f low high place e due lp s (wrong_number low high f cause file place w)
  faulty e (other v rest b v1 v2 not-kind) =
      let a = number_gives file 1 kinds 0 0 v rest b v1 v2 in
      no_head kind tops file (then_ok (of_kind kind file) a.is ∙ cond-false _ _ _ (ne_eqb v kind not-kind))
  faulty e (left t place fair lp s) =
      let u = upto kind tops file t (drop place file) k1 k2 fair s in
      let here : u.next ≡ place = same_place file u.next place u.lies (omega arith) u.left in
      left_over kind tops file _ u.head _ u.body (omega arith) ∙ ap (λ p. Err (fault 8 p 4)) here
