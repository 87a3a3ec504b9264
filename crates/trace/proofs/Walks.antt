-- What the loops of the reader keep. Assumes nothing.
use Rattle.std.proofs.Common.{◌≡◌, ℕ, suc, ◌+◌, ◌-◌, ◌<◌, ◌≤◌, true, List, [], ◌∷◌, ◌++◌, length, get_or, take, drop, set, Ok, Err, Result, sym, refl, ap, ◌∙◌, subst, not-suc-le-zero, arith}
use Rattle.std.proofs.lemmas.List.{take_more_set, length_push}
use Rattle.std.proofs.lemmas.Bool.{and_from, le-leb}
use Rattle.std.proofs.lemmas.Slice.Zip.{all_zipped_more}
use Rattle.std.specs.List.{AllZip}
use Rattle.trace.specs.Told.{Told}
use Rattle.trace.specs.Kinds.{in_range}
use Rattle.trace.specs.Files.{Read, and_then, fields_at, samples_at}
use Rattle.trace.proofs.Chains.{then_ok, then_err}

-- numbers that are at most their fields' largest values are in range
ranges : (ts xs others : List ℕ) → length ts ≤ length xs → ((k : ℕ) → k < length ts → get_or xs k 0 ≤ get_or ts k 0) → in_range ts (xs ++ others) ≡ true
ranges [] xs others l h = refl
ranges (t ∷ ts) [] others l h = absurd (not-suc-le-zero l)
ranges (t ∷ ts) (x ∷ xs) others l h = and_from _ _ (le-leb x t (h 0 (omega arith))) (ranges ts xs others (omega arith) (λ k b. h (suc k) (omega arith)))

-- i fields of the sample at start are read, into the front of so, and next is the place behind them
pub record Fields (tops file : List ℕ) (start i : ℕ) (so : List ℕ) (next : ℕ) : Type 0 where
  pub lies : next ≤ length file
  pub sized : length so ≡ length tops
  pub same : fields_at tops [] file start ≡ fields_at (drop i tops) (take i so) file next
  pub fits : (k : ℕ) → k < i → get_or so k 0 ≤ get_or tops k 0

module _ (tops file : List ℕ) (start i : ℕ) (so : List ℕ) (next : ℕ) (w : Fields tops file start i so next) where
  pub fields_fit : (others : List ℕ) → length tops ≤ i → in_range tops (so ++ others) ≡ true
  fields_fit others h = ranges tops so others (omega (arith, w.sized)) (λ k l. w.fits k (omega arith))

-- i samples of the file are read, and at is the place behind them
pub record Samples (tops file : List ℕ) (first count i at : ℕ) : Type 0 where
  pub so : List (List ℕ)
  pub lies : at ≤ length file
  pub long : length so ≡ i
  pub same : samples_at tops count [] file first ≡ samples_at tops (count - i) so file at

module _ (tops file : List ℕ) (first count : ℕ) where
  pub samples_none : first ≤ length file → Samples tops file first count 0 first
  samples_none h = record { so = []; lies = h; long = refl; same = ap (λ n. samples_at tops n [] file first) (omega arith) }

module _ (tops file : List ℕ) (first count i at : ℕ) (w : Samples tops file first count i at) where
  -- the samples that are left
  abbrev later : Read (List ℕ) → Result (Read (List (List ℕ))) Told
  later x = samples_at tops (count - (i + 1)) (w.so ++ (x.value ∷ [])) file x.next

  on : i < count → samples_at tops count [] file first ≡ and_then (fields_at tops [] file at) later
  on h = w.same ∙ ap (λ n. samples_at tops n w.so file at) {x = count - i} {y = suc (count - (i + 1))} (omega arith)

  pub samples_fault : (e : Told) → i < count → fields_at tops [] file at ≡ Err e → samples_at tops count [] file first ≡ Err e
  samples_fault e h bad = on h ∙ then_err later bad

  pub samples_more : (x : Read (List ℕ)) → i < count → fields_at tops [] file at ≡ Ok x → x.next ≤ length file → Samples tops file first count (i + 1) x.next
  samples_more x h ok lies =
      record { so = w.so ++ (x.value ∷ []); lies = lies; long = length_push w.so x.value ∙ omega (arith, w.long); same = on h ∙ then_ok later ok }

-- y is made of a sample with the fields xs
abbrev pub MadeOf : {S T : Type 0} → (S → List ℕ) → (S → T → Type 0) → List ℕ → T → Type 0
MadeOf {S} fields made xs y = (s : S) × (fields s ≡ xs) × made s y

-- i samples of the file are read, and what is made of them stands at the front of out
pub record Making (tops file : List ℕ) (first count : ℕ) {S T : Type 0} (fields : S → List ℕ) (made : S → T → Type 0) (i at : ℕ) (out : List T) : Type 0 where
  pub walked : Samples tops file first count i at
  pub front : AllZip (MadeOf fields made) walked.so (take i out)

module _ (tops file : List ℕ) (first count : ℕ) {S T : Type 0} (fields : S → List ℕ) (made : S → T → Type 0) where
  pub making_none : first ≤ length file → (out : List T) → Making tops file first count fields made 0 first out
  unfolding samples_none
  making_none h out = record { walked = samples_none tops file first count h; front = tt }

  module _ (i at : ℕ) (out : List T) (w : Making tops file first count fields made i at out) where
    pub making_more : (s : S) (y : T) (next : ℕ) → i < count → i < length out → fields_at tops [] file at ≡ Ok (record { value = fields s; next = next }) → next ≤ length file → made s y → Making tops file first count fields made (i + 1) next (set out i y)
    unfolding samples_more
    making_more s y next h room ok lies is =
        record {
          walked = samples_more tops file first count i at w.walked (record { value = fields s; next = next }) h ok lies;
          front = subst (AllZip (MadeOf fields made) (w.walked.so ++ (fields s ∷ []))) (sym (take_more_set out i y room)) (all_zipped_more (MadeOf fields made) w.walked.so (take i out) (fields s) y w.front (s, refl, is));
        }

    pub making_fault : (e : Told) (xs : Read (List (List ℕ))) → i < count → fields_at tops [] file at ≡ Err e → samples_at tops count [] file first ≡ Ok xs → ⊥
    making_fault e xs h bad ok =
        let no_good : samples_at tops count [] file first ≡ Err e = samples_fault tops file first count i at w.walked e h bad in
        let z : ◌≡◌ {A = ℕ} 0 1 = cc in
        omega arith
