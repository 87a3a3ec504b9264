-- How a text grows. Assumes nothing.
use Rattle.std.proofs.Common.{◌≡◌, ℕ, ◌+◌, ◌-◌, ◌*◌, ◌<◌, ◌≤◌, min, List, ◌++◌, map, length, take, drop, sym, refl, ap, ◌∙◌, ⊎_elim, append_assoc, append-nil, add-one, arith, length-drop}
use Rattle.std.proofs.lemmas.List.{take_all, take_at, drop_at, drop-drop, take-map, drop-map}
use Rattle.std.proofs.Math.ListN.{drop_of_length-le}
use Rattle.std.proofs.lemmas.Bool.{cases_lt}
use Rattle.inspect.specs.Labels.{Labels}
use Rattle.inspect.specs.Texts.{title_line, count_line, in_turn, nth_block, block_count}

pub in_turn_more : (text : ℕ → List ℕ) (n : ℕ) → in_turn text n ++ text n ≡ in_turn text (n + 1)
in_turn_more text n = ap (in_turn text) (sym (add-one n))

-- behind a head
pub turn_more : (head : List ℕ) (text : ℕ → List ℕ) (n : ℕ) (line : List ℕ) → line ≡ text n → (head ++ in_turn text n) ++ line ≡ head ++ in_turn text (n + 1)
turn_more head text n line is = append_assoc head (in_turn text n) line ∙ ap (λ l. head ++ (in_turn text n ++ l)) is ∙ ap (λ l. head ++ l) (in_turn_more text n)

-- the text of a trace up to its n-th block
abbrev pub inspected : Labels → ℕ → List (List ℕ) → ℕ → ℕ → List ℕ
inspected labels machine rows padded n = title_line labels.title labels.number machine ++ (count_line (length rows) padded ++ in_turn (nth_block labels.names rows) n)

module _ (labels : Labels) (machine : ℕ) (rows : List (List ℕ)) (padded : ℕ) where
  pub inspected_more : (n : ℕ) (line : List ℕ) → line ≡ nth_block labels.names rows n → inspected labels machine rows padded n ++ line ≡ inspected labels machine rows padded (n + 1)
  inspected_more n line is =
      let counts = count_line (length rows) padded in
      append_assoc (title_line labels.title labels.number machine) (counts ++ in_turn (nth_block labels.names rows) n) line
      ∙ ap (λ l. title_line labels.title labels.number machine ++ l) (turn_more counts (nth_block labels.names rows) n line is)

  pub inspected_none : (title : List ℕ) (number count : ℕ) → title ≡ labels.title → number ≡ labels.number → count ≡ length rows → title_line title number machine ++ count_line count padded ≡ inspected labels machine rows padded 0
  inspected_none title number count t n c =
      (λ i. title_line (t i) (n i) machine ++ count_line (c i) padded) ∙ ap (λ l. title_line labels.title labels.number machine ++ l) (sym (append-nil (count_line (length rows) padded)))

-- as many blocks as there are begun
pub all_blocks : (n count : ℕ) → n ≤ 16 * count → 16 * count < n + 16 → count ≡ block_count n
all_blocks n count enough begun = omega arith

module _ {S : Type 0} (fields : S → List ℕ) (samples : List S) where
  short_part : (n : ℕ) (xs : List S) → take (min n (length xs)) xs ≡ take n xs
  short_part n xs =
      ⊎_elim (λ h. ap (λ k. take k xs) {x = min n (length xs)} {y = n} (omega arith)) (λ h. take_all (min n (length xs)) xs (omega arith) ∙ sym (take_all n xs (omega arith))) (cases_lt n (length xs))

  short_rest : (n : ℕ) (xs : List S) → drop (min n (length xs)) xs ≡ drop n xs
  short_rest n xs =
      ⊎_elim (λ h. ap (λ k. drop k xs) {x = min n (length xs)} {y = n} (omega arith)) (λ h. drop_of_length-le xs (omega arith) ∙ sym (drop_of_length-le xs (omega arith))) (cases_lt n (length xs))

  -- the next part of at most 16 samples
  module _ (k : ℕ) (part rest rest' : List S) (at : rest ≡ drop (16 * k) samples) (parts : rest ≡ part ++ rest') (size : length part ≡ min 16 (length rest)) where
    pub part_rows : map fields part ≡ take 16 (drop (16 * k) (map fields samples))
    part_rows =
        ap (map fields) (sym (take_at part rest' (length part) refl) ∙ (λ i. take (size i) (sym parts i)) ∙ short_part 16 rest ∙ ap (take 16) at) ∙ sym (take-map fields 16 (drop (16 * k) samples))
        ∙ sym (ap (take 16) (drop-map fields (16 * k) samples))

    pub rest_on : rest' ≡ drop (16 * (k + 1)) samples
    rest_on =
        sym (drop_at part rest' (length part) refl) ∙ (λ i. drop (size i) (sym parts i)) ∙ short_rest 16 rest ∙ ap (drop 16) at ∙ drop-drop 16 (16 * k) samples ∙ ap (λ n. drop n samples) {x = 16 * k + 16} {y = 16 * (k + 1)} (omega arith)

    -- which lies in the trace
    pub within : 0 < length rest → (0 < length part) × (16 * k + length part ≤ length samples)
    within some = let long : length rest ≡ length samples - 16 * k = ap length at ∙ length-drop (16 * k) samples in (omega arith, omega arith)
