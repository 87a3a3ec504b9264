-- How the steps of reading a file chain: the first fault stands. Assumes nothing.
use Rattle.std.proofs.Common.{◌≡◌, ℕ, zero, suc, ◌<◌, ◌≤◌, ◌&&◌, leb, ◌≢◌, true, false, List, [], length, take, drop, Ok, Err, Result, IsOk, sym, refl, ap, ◌∙◌, subst, arith}
use Rattle.std.proofs.lemmas.Bool.{cond_both, and_right, cond-true, cond-false, eq-eqb, le-leb, lt-leb}
use Rattle.trace.specs.declared.refusal.Fault.{Fault}
use Rattle.trace.specs.declared.file.Header.{Header}
use Rattle.trace.specs.declared.file.Parsed.{Parsed}
use Rattle.trace.specs.Told.{Told, fault}
use Rattle.trace.specs.declared.kind.KindName.{KindName}
use Rattle.trace.specs.declared.kind.KindName.TheVariants.{Pulse, Stroke}
use Rattle.trace.specs.KindNames.{kind_number}
use Rattle.trace.specs.Numbers.{Number, found, none, number}
use Rattle.trace.specs.Kinds.{kinds, in_range, made}
use Rattle.trace.specs.Refusals.{answer, told_fault}
use Rattle.trace.specs.Reading.{Verified}
use Rattle.trace.specs.Files.{Read, Head, and_then, ranged, number_at, counted, headed, of_kind, head_of, samples_at, ended, bodied, trace_file}

module _ {A B : Type 0} (f : A → Result B Told) where
  pub then_ok : {x : Result A Told} {a : A} → x ≡ Ok a → and_then x f ≡ f a
  then_ok e = ap (λ z. and_then z f) e

  pub then_err : {x : Result A Told} {e : Told} → x ≡ Err e → and_then x f ≡ Err e
  then_err e = ap (λ z. and_then z f) e

-- the head of a file of this kind, once its kind is read
module _ (kind : ℕ) (file : List ℕ) (k : Read ℕ) (read : number_at 1 kinds 0 file 0 ≡ Ok k) (same : k.value ≡ kind) where
  head_is : head_of kind file ≡ and_then (number_at 1 65535 1 file k.next) (counted file)
  head_is = then_ok (of_kind kind file) read ∙ cond-true _ _ _ (eq-eqb _ _ same)

  pub head_broke : {e : Told} → number_at 1 65535 1 file k.next ≡ Err e → head_of kind file ≡ Err e
  head_broke e = head_is ∙ then_err (counted file) e

  pub head_uncounted : (m : Read ℕ) {e : Told} → number_at 1 65535 1 file k.next ≡ Ok m → number_at 1 4096 2 file m.next ≡ Err e → head_of kind file ≡ Err e
  head_uncounted m ok bad = head_is ∙ then_ok (counted file) ok ∙ then_err (headed m) bad

  pub head_whole : (m c : Read ℕ) → number_at 1 65535 1 file k.next ≡ Ok m → number_at 1 4096 2 file m.next ≡ Ok c → head_of kind file ≡ headed m c
  head_whole m c e h = head_is ∙ then_ok (counted file) e ∙ then_ok (headed m) h

-- an answer that means no refusal is no error
pub answer_ok : {A B E : Type 0} (f : A → B) (g : E → Told) (r : Result A E) → ((e : Told) → answer f g r ≡ Err e → ⊥) → IsOk r
answer_ok f g (Ok a) h = refl
answer_ok f g (Err e) h = absurd (h (g e) refl)

-- numbers in range make a sample
module _ (tops xs : List ℕ) where
  in_range_made : (e : Told) → made tops xs ≡ Err e → in_range tops xs ≡ true → ⊥
  in_range_made e is h = let p : made tops xs ≡ Ok (take (length tops) xs) = cond-true _ _ _ h in let z : ◌≡◌ {A = ℕ} 0 1 = cc in omega arith

  pub made_ok : {A E : Type 0} (f : A → List ℕ) (g : E → Told) (r : Result A E) → answer f g r ≡ made tops xs → in_range tops xs ≡ true → IsOk r
  made_ok f g r is h = answer_ok f g r (λ e bad. in_range_made e (sym is ∙ bad) h)

-- a file whose head is read: its trace, by what comes of its samples
module _ (kind : ℕ) (tops file : List ℕ) where
  pub no_head : {e : Told} → head_of kind file ≡ Err e → trace_file kind tops file ≡ Err e
  no_head bad = then_err (bodied tops file) bad

  module _ (h : Read Head) (head : head_of kind file ≡ Ok h) where
    pub no_samples : {e : Told} → samples_at tops h.value.count [] file h.next ≡ Err e → trace_file kind tops file ≡ Err e
    no_samples bad = then_ok (bodied tops file) head ∙ then_err (ended file h.value.machine) bad

    module _ (xs : Read (List (List ℕ))) (body : samples_at tops h.value.count [] file h.next ≡ Ok xs) where
      has_samples : trace_file kind tops file ≡ ended file h.value.machine xs
      has_samples = then_ok (bodied tops file) head ∙ then_ok (ended file h.value.machine) body

      pub left_over : xs.next < length file → trace_file kind tops file ≡ Err (fault 8 xs.next 4)
      left_over l = has_samples ∙ cond-false _ _ _ (lt-leb (length file) xs.next l)

      pub whole : length file ≤ xs.next → trace_file kind tops file ≡ Ok (record { machine = h.value.machine; samples = xs.value })
      whole l = has_samples ∙ cond-true _ _ _ (le-leb (length file) xs.next l)

  -- what the exit of a `?` says of the whole file
  pub refused_by : (r : Result (Parsed Header) Fault) (x : Fault) → ((y : Fault) × (r ≡ Err y) × (y ≡ x)) → trace_file kind tops file ≡ Err (told_fault x) → Verified kind tops file r
  refused_by r x p e = subst (Verified kind tops file) (sym p.1) (e ∙ ap (λ y. Err (told_fault y)) (sym p.2))

-- what is read in a range is the number that was found
ranged_value : (low high f at v n : ℕ) (x : Read ℕ) → ranged low high f at (found v n) ≡ Ok x → v ≡ x.value
ranged_value low high f at v n x =
    cond_both (leb low v && leb v high) _ _ (λ z. z ≡ Ok x → v ≡ x.value) (λ t e. cc) (λ t e. let z : ◌≡◌ {A = ℕ} 0 1 = cc in absurd (omega arith))

no_kinds : (v : ℕ) → ((name : KindName) → kind_number name ≢ v) → (leb 1 v && leb v kinds) ≡ false
no_kinds zero other = refl
no_kinds (suc zero) other = absurd (other Pulse refl)
no_kinds (suc (suc zero)) other = absurd (other Stroke refl)
no_kinds (suc (suc (suc v))) other = and_right _ _ (lt-leb (suc (suc (suc v))) kinds (omega arith))

unkind : (r : Number) (x : Read ℕ) → ranged 0 255 0 0 r ≡ Ok x → ((name : KindName) → kind_number name ≢ x.value) → ranged 1 kinds 0 0 r ≡ Err (fault 6 0 0)
unkind (found v n) x is other = cond-false _ _ _ (no_kinds v (subst (λ u. (name : KindName) → kind_number name ≢ u) (sym (ranged_value 0 255 0 0 v n x is)) other))
unkind (none e) x is other = let z : ◌≡◌ {A = ℕ} 0 1 = cc in absurd (omega arith)

-- a number that no kind has is out of the kinds' range
pub no_kind : (file : List ℕ) (x : Read ℕ) → number_at 0 255 0 file 0 ≡ Ok x → ((name : KindName) → kind_number name ≢ x.value) → number_at 1 kinds 0 file 0 ≡ Err (fault 6 0 0)
no_kind file x is other = unkind (number 3 (drop 0 file)) x is other
