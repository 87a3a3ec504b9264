-- Two readings of one file say the same. Assumes nothing.
use Rattle.std.proofs.Common.{◌≡◌, ℕ, List, map, length, take, drop, Ok, Err, Result, sym, ap, ◌∙◌, subst, arith}
use mathlib.Core.List.{map-map}
use Rattle.std.proofs.lemmas.List.{length-map, take_at}
use Rattle.trace.specs.declared.file.Header.{Header}
use Rattle.trace.specs.Told.{Told, only}
use Rattle.trace.specs.Files.{Head, Trace}
use Rattle.trace.specs.Reading.{head, counts, codes_over, SamplesOver}
use Rattle.trace.specs.declared.refusal.Refusal.{Refusal}
use Rattle.readings.specs.declared.reading.Unread.TheVariants.{Refused}
use Rattle.trace.specs.Refusals.{told}
use Rattle.readings.specs.Readings.{Says}

-- the parts of an answer
machine_of : Result Head Told → ℕ
machine_of (Ok h) = h.machine
machine_of (Err e) = 0

count_of : Result Head Told → ℕ
count_of (Ok h) = h.count
count_of (Err e) = 0

refusal_of : Result Head Told → Told
refusal_of (Ok h) = only 0
refusal_of (Err e) = e

no_both : (h : Head) (e : Told) → ◌≡◌ {A = Result Head Told} (Ok h) (Err e) → ⊥
no_both h e p = let z : ◌≡◌ {A = ℕ} 0 1 = cc in omega arith

module _ (code : List ℕ → ℕ) (old new : List ℕ) where
  front : (t : Trace) → new ≡ codes_over code (Ok t) old → take (length t.samples) new ≡ map code t.samples
  front t put = ap (take (length t.samples)) put ∙ take_at (map code t.samples) (drop (length t.samples) old) (length t.samples) (length-map t.samples code)

  pub read_says : (h : Header) (r : Result Trace Told) → Ok (head h) ≡ counts r → new ≡ codes_over code r old → Says code (Ok h) r new
  unfolding machine_of count_of
  read_says h (Ok t) is put = (ap machine_of is, ap count_of is, front t put)
  read_says h (Err e) is put = no_both (head h) e is

  pub refused_says : (x : Refusal) (r : Result Trace Told) → Err (told x) ≡ counts r → Says code (Err (Refused x)) r new
  unfolding refusal_of
  refused_says x (Ok t) is = no_both _ (told x) (sym is)
  refused_says x (Err e) is = ap refusal_of is

  alike_in : {S : Type 0} (fields : S → List ℕ) (olds news : List S) (h : Header) (r : Result Trace Told) → Ok (head h) ≡ counts r → new ≡ codes_over code r old → SamplesOver fields r olds news → map (λ s. code (fields s)) (take h.count news) ≡ take h.count new
  unfolding count_of
  alike_in fields olds news h (Ok t) is put over =
      let count : h.count ≡ length t.samples = ap count_of is in
      sym (map-map code fields (take h.count news)) ∙ ap (λ n. map code (map fields (take n news))) count ∙ ap (map code) over.0
      ∙ sym (front t put) ∙ ap (λ n. take n new) (sym count)
  alike_in fields olds news h (Err e) is put over = absurd (no_both (head h) e is)

  -- what was written as codes is the codes of what was written as samples
  pub alike : {S : Type 0} (fields : S → List ℕ) (olds news : List S) (h : Header) (there : ℕ → Result Trace Told) (m n : ℕ) → m ≡ n → Ok (head h) ≡ counts (there m) → new ≡ codes_over code (there m) old → SamplesOver fields (there n) olds news → (c : ℕ) → c ≡ h.count → map (λ s. code (fields s)) (take c news) ≡ take c new
  alike fields olds news h there m n even is put over c all =
      let over_m : SamplesOver fields (there m) olds news = subst (λ x. SamplesOver fields (there x) olds news) (sym even) over in
      subst (λ x. map (λ s. code (fields s)) (take x news) ≡ take x new) (sym all) (alike_in fields olds news h (there m) is put over_m)
