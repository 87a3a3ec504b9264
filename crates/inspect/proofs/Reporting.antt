-- Which text an input has. Assumes nothing.
use Rattle.std.proofs.Common.{◌≡◌, ℕ, ◌<◌, ◌≤◌, List, [], ◌∷◌, ◌++◌, length, IfOk, Result, codes, decimal, sym, refl, ap, ◌∙◌, append_assoc}
use Rattle.std.proofs.lemmas.Result.{IfOk-weaker}
use Rattle.std.proofs.lemmas.Bool.{cond-true, cond-false, le-leb, lt-leb}
use Rattle.trace.specs.Told.{Told}
use Rattle.inspect.specs.AnyFile.{Any, any_file, longest}
use Rattle.inspect.specs.Paddings.{padded}
use Rattle.inspect.specs.Reports.{answer_text, report_text}
use Rattle.inspect.specs.Wordings.{cause_words, field_name, cause_line, place_line, too_long}

pub past_longest : (file : List ℕ) → longest < length file → too_long ≡ report_text file
past_longest file h = sym (cond-false _ _ _ (lt-leb (length file) longest h))

pub answered : (file : List ℕ) (r : Result Any Told) (n : ℕ) → length file ≤ longest → r ≡ any_file file → n ≡ padded file → answer_text r n ≡ report_text file
answered file r n h is count = ap (λ x. answer_text x n) is ∙ ap (answer_text (any_file file)) count ∙ sym (cond-true _ _ _ (le-leb (length file) longest h))

-- a text that is made is the one that equals it
pub made_same : {X E : Type 0} (bytes : X → List ℕ) (r : Result X E) (x y : List ℕ) → x ≡ y → IfOk r (λ s. bytes s ≡ x) → IfOk r (λ s. bytes s ≡ y)
made_same bytes r x y e = IfOk-weaker r (λ s. bytes s ≡ x) (λ s. bytes s ≡ y) (λ s is. is ∙ e)

abbrev pub lines_flat : ℕ → List ℕ → ℕ → ℕ → List ℕ → List ℕ
lines_flat number words place field name =
    codes "refused " ++ (decimal number ++ (codes ": " ++ (words ++ ((10 ∷ codes "byte place ") ++ (decimal place ++ (codes ", field " ++ (decimal field ++ (codes " (" ++ (name ++ (codes ")" ++ (10 ∷ [])))))))))))

behind : (a b c d rest : List ℕ) → (a ++ (b ++ (c ++ d))) ++ rest ≡ a ++ (b ++ (c ++ (d ++ rest)))
behind a b c d rest = simp append_assoc refl

-- the two lines of a refusal, written at once
pub refusal_lines : (number place field n f : ℕ) (words name : List ℕ) → number ≡ n → words ≡ cause_words n → field ≡ f → name ≡ field_name f → lines_flat number words place field name ≡ cause_line n ++ place_line place f
refusal_lines number place field n f words name is said in_field named =
    (λ i. lines_flat (is i) (said i) place (in_field i) (named i))
    ∙ sym (ap (λ l. codes "refused " ++ l) (behind (decimal n) (codes ": ") (cause_words n) (10 ∷ []) (place_line place f)))
