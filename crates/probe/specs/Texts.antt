-- The text that is printed of an answer. Assumes nothing.
use Rattle.std.specs.Prelude.{ℕ, List, [], ◌∷◌, ◌++◌, codes, decimal}

abbrev pub summary_line : ℕ → ℕ → ℕ → ℕ → List ℕ
summary_line samples pairs places reach =
    codes "traces 1 samples " ++ (decimal samples ++ (codes " pairs " ++ (decimal pairs ++ (codes " places " ++ (decimal places ++ (codes " reach " ++ (decimal reach ++ (10 ∷ []))))))))
