-- A trace has at most 4,096 samples, its file at most 36,873 bytes, and its refusals are faults of the file. Assumes nothing.
use Rattle.std.proofs.Common.{◌≡◌, ℕ, zero, suc, ◌+◌, ◌-◌, ◌*◌, ◌≤◌, ◌&&◌, eqb, ltb, leb, List, [], ◌∷◌, ◌++◌, map, length, take, drop, Ok, Err, Result, refl, ap, ◌∙◌, subst, arith}
use Rattle.std.proofs.lemmas.List.{length_push, take_at}
use Rattle.std.proofs.lemmas.Bool.{and_parts, leb-true, le-leb, cond-true, cond_both}
use Rattle.trace.specs.Told.{Told, number_of}
use Rattle.trace.specs.Kinds.{kinds, pulse, stroke}
use Rattle.trace.specs.Numbers.{Number, found, none, number, scaled}
use Rattle.trace.specs.Files.{Read, Head, Trace, and_then, ranged, number_at, fields_at, samples_at, headed, counted, of_kind, head_of, ended, bodied, trace_file}
use Rattle.trace.specs.Reading.{fitted, counts, SamplesOver}
use Rattle.inspect.specs.AnyFile.{Any, pulses, strokes, as_kind, or_else, any_pulses, any_strokes, ToldInFile, longest, NoneLonger}

-- what is read has the property P, or is a fault of the file
abbrev pub Good : {A : Type 0} → (A → Type 0) → Result A Told → Type 0
Good P (Ok a) = P a
Good P (Err e) = ToldInFile e

good_then : {A B : Type 0} (P : A → Type 0) (Q : B → Type 0) (f : A → Result B Told) (x : Result A Told) → Good P x → ((a : A) → P a → Good Q (f a)) → Good Q (and_then x f)
good_then P Q f (Ok a) p q = q a p
good_then P Q f (Err e) p q = p

pub good_weaker : {A : Type 0} (P Q : A → Type 0) (x : Result A Told) → Good P x → ((a : A) → P a → Q a) → Good Q x
good_weaker P Q (Ok a) p q = q a p
good_weaker P Q (Err e) p q = p

-- a number takes at most k bytes, or is not there
abbrev Named : ℕ → Number → Type 0
Named k (found v n) = n ≤ k
Named k (none e) = Unit {0}

named_scaled : (g k : ℕ) (x : Number) → Named k x → Named (suc k) (scaled g x)
named_scaled g k (found v n) h = omega arith
named_scaled g k (none e) h = h

named : (n : ℕ) (bs : List ℕ) → Named n (number n bs)
named zero bs = tt
named (suc n) [] = tt
named (suc n) (b ∷ bs) = cond_both (ltb b 128) (found b 1) (scaled (b - 128) (number n bs)) (Named (suc n)) (λ _. omega arith) (λ _. named_scaled (b - 128) n (number n bs) (named n bs))

abbrev Ranged : ℕ → ℕ → Read ℕ → Type 0
Ranged high at y = (y.value ≤ high) × (y.next ≤ at + 3)

good_ranged : (low high f at : ℕ) (x : Number) → Named 3 x → Good (Ranged high at) (ranged low high f at x)
good_ranged low high f at (found v n) h =
    cond_both (leb low v && leb v high) _ _ (Good (Ranged high at)) (λ e. (leb-true v high (and_parts (leb low v) (leb v high) e).1, omega arith)) (λ _. tt)
good_ranged low high f at (none e) h = tt

good_number : (low high f : ℕ) (file : List ℕ) (at : ℕ) → Good (Ranged high at) (number_at low high f file at)
good_number low high f file at = good_ranged low high f at (number 3 (drop at file)) (named 3 (drop at file))

-- each field takes at most three bytes
abbrev Near : ℕ → ℕ → Read (List ℕ) → Type 0
Near at n x = x.next ≤ at + 3 * n

good_fields : (tops so file : List ℕ) (at : ℕ) → Good (Near at (length tops)) (fields_at tops so file at)
good_fields [] so file at = omega arith
good_fields (top ∷ tops) so file at =
    good_then (Ranged top at) (Near at (suc (length tops))) (λ x. fields_at tops (so ++ (x.value ∷ [])) file x.next) (number_at 0 top 3 file at) (good_number 0 top 3 file at)
    (λ x l. good_weaker (Near x.next (length tops)) (Near at (suc (length tops))) (fields_at tops (so ++ (x.value ∷ [])) file x.next) (good_fields tops (so ++ (x.value ∷ [])) file x.next) (λ y m. omega arith))

-- n samples in all, and n more from `at` on take at most nine bytes each where they have at most three fields
pub record Long (tops : List ℕ) (at more n : ℕ) (x : Read (List (List ℕ))) : Type 0 where
  pub all : length x.value ≡ n
  pub near : length tops ≤ 3 → x.next ≤ at + 9 * more

good_samples : (tops : List ℕ) (n : ℕ) (so : List (List ℕ)) (file : List ℕ) (at : ℕ) → Good (Long tops at n (length so + n)) (samples_at tops n so file at)
good_samples tops zero so file at = record { all = omega arith; near = λ _. omega arith }
good_samples tops (suc n) so file at =
    good_then (Near at (length tops)) (Long tops at (suc n) (length so + suc n)) (λ x. samples_at tops n (so ++ (x.value ∷ [])) file x.next) (fields_at tops [] file at) (good_fields tops [] file at)
    (λ x l. good_weaker (Long tops x.next n (length (so ++ (x.value ∷ [])) + n)) (Long tops at (suc n) (length so + suc n)) (samples_at tops n (so ++ (x.value ∷ [])) file x.next) (good_samples tops n (so ++ (x.value ∷ [])) file x.next)
    (λ y m. record { all = omega (arith, m.all, length_push so x.value); near = λ h. omega (arith, m.near h) }))

abbrev Few : Read Head → Type 0
Few h = (h.value.count ≤ 4096) × (h.next ≤ 9)

good_head : (kind : ℕ) (file : List ℕ) → Good Few (head_of kind file)
good_head kind file =
    good_then (Ranged kinds 0) Few (of_kind kind file) (number_at 1 kinds 0 file 0) (good_number 1 kinds 0 file 0)
    (λ k l. cond_both (eqb k.value kind) _ _ (Good Few)
    (λ _. good_then (Ranged 65535 k.next) Few (counted file) (number_at 1 65535 1 file k.next) (good_number 1 65535 1 file k.next)
    (λ m l'. good_then (Ranged 4096 m.next) Few (headed m) (number_at 1 4096 2 file m.next) (good_number 1 4096 2 file m.next) (λ n l''. (l''.0, omega arith))))
    (λ _. tt))

-- at most 4,096 samples, and at most 36,873 bytes where a sample has at most three fields
pub record Fits (tops file : List ℕ) (t : Trace) : Type 0 where
  pub few : length t.samples ≤ 4096
  pub short : length tops ≤ 3 → length file ≤ longest

pub good_file : (kind : ℕ) (tops file : List ℕ) → Good (Fits tops file) (trace_file kind tops file)
good_file kind tops file =
    good_then Few (Fits tops file) (bodied tops file) (head_of kind file) (good_head kind file)
    (λ h few. good_then (Long tops h.next h.value.count (0 + h.value.count)) (Fits tops file) (ended file h.value.machine) (samples_at tops h.value.count [] file h.next) (good_samples tops h.value.count [] file h.next)
    (λ xs l. cond_both (leb (length file) xs.next) _ _ (Good (Fits tops file))
    (λ e. record { few = omega (arith, l.all); short = λ three. omega (arith, l.near three, leb-true (length file) xs.next e) }) (λ _. tt)))

-- so room for 4,096 is enough
fitted_whole : (tops file : List ℕ) (room : ℕ) (r : Result Trace Told) → 4096 ≤ room → Good (Fits tops file) r → fitted room r ≡ r
fitted_whole tops file room (Ok t) h g = cond-true _ _ _ (le-leb (length t.samples) room (omega (arith, g.few)))
fitted_whole tops file room (Err e) h g = refl

counts_err : (r : Result Trace Told) (e : Told) → Err e ≡ counts r → r ≡ Err e
counts_err (Ok t) e h = let z : ◌≡◌ {A = ℕ} 0 1 = cc in absurd (omega arith)
counts_err (Err x) e h = let d : x ≡ e = cc in ap Err d

counts_ok : {S : Type 0} (fields : S → List ℕ) (r : Result Trace Told) (h : Head) (old out : List S) → Ok h ≡ counts r → SamplesOver fields r old out → Ok (record { machine = h.machine; samples = map fields (take h.count out) }) ≡ r
counts_ok fields (Ok t) h old out is put =
    let machine : h.machine ≡ t.machine = cc in
    let count : h.count ≡ length t.samples = cc in
    let samples : map fields (take h.count out) ≡ t.samples = ap (λ n. map fields (take n out)) count ∙ put.0 in
    ap Ok (λ j. record { machine = machine j; samples = samples j })
counts_ok fields (Err e) h old out is put = let z : ◌≡◌ {A = ℕ} 0 1 = cc in absurd (omega arith)

-- a reader with room for 4,096 samples answers as the file says
module _ (kind : ℕ) (tops file : List ℕ) (room : ℕ) (enough : 4096 ≤ room) where
  whole : fitted room (trace_file kind tops file) ≡ trace_file kind tops file
  whole = fitted_whole tops file room (trace_file kind tops file) enough (good_file kind tops file)

  pub refused : (e : Told) → Err e ≡ counts (fitted room (trace_file kind tops file)) → trace_file kind tops file ≡ Err e
  refused e is = counts_err (trace_file kind tops file) e (is ∙ ap counts whole)

  pub in_file : (e : Told) → Err e ≡ counts (fitted room (trace_file kind tops file)) → ToldInFile e
  in_file e is = subst (Good (Fits tops file)) (refused e is) (good_file kind tops file)

  -- the samples were read into the front of the vector's places, which are then cut to their count
  pub read : {S : Type 0} (fields : S → List ℕ) (h : Head) (old out rest items : List S) (len : ℕ) → Ok h ≡ counts (fitted room (trace_file kind tops file)) → SamplesOver fields (fitted room (trace_file kind tops file)) old out → length out ≡ len → items ≡ take h.count (take len (out ++ rest)) → Ok (record { machine = h.machine; samples = map fields items }) ≡ trace_file kind tops file
  read fields h old out rest items len is put long cut =
      ap (λ xs. Ok (record { machine = h.machine; samples = map fields xs })) (cut ∙ ap (take h.count) (take_at out rest len long))
      ∙ counts_ok fields (trace_file kind tops file) h old out (is ∙ ap counts whole) (subst (λ t. SamplesOver fields t old out) whole put)

-- no file of any kind is longer than the longest
module _ (file : List ℕ) where
  abbrev Short : Any → Type 0
  Short a = length file ≤ longest

  as_short : (any : Trace → Any) (tops : List ℕ) (r : Result Trace Told) → length tops ≤ 3 → Good (Fits tops file) r → Good Short (as_kind any r)
  as_short any tops (Ok t) three g = g.short three
  as_short any tops (Err e) three g = g

  or_short : (r s : Result Any Told) → Good Short r → Good Short s → Good Short (or_else r s)
  or_short (Ok a) s g h = g
  or_short (Err e) s g h = cond_both (eqb (number_of e) 7) s (Err e) (Good Short) (λ _. h) (λ _. g)

  pub none_longer : NoneLonger file
  none_longer a is =
      subst (Good Short) is
      (or_short (any_pulses file) (any_strokes file) (as_short pulses pulse.tops (trace_file pulse.number pulse.tops file) (omega arith) (good_file pulse.number pulse.tops file))
      (as_short strokes stroke.tops (trace_file stroke.number stroke.tops file) (omega arith) (good_file stroke.number stroke.tops file)))
