-- What the bounded tests `any` and `every` decide.
use Rattle.std.specs.Prelude.{◌≡◌, ℕ, zero, suc, ◌<◌, Bool, true, false, ◌||◌, Decides, refl}
use Rattle.std.proofs.Common.{ap, ◌∙◌, arith, ⊎_elim}
use Rattle.std.proofs.lemmas.Bool.Decides.{Decides-below_or, Decides-below_and}
use Rattle.std.proofs.lemmas.Bool.{cases_Bool, both_ways}
use Rattle.filters.specs.Questions.{any, every}

pub decides_any : (p : ℕ → Bool) (n : ℕ) → Decides (any p n) ((s : ℕ) × (s < n) × (p s ≡ true))
decides_any p n = Decides-below_or p (λ s. p s ≡ true) (any p) (λ s. (λ e. e, λ e. e)) refl (λ _. refl) n

pub decides_every : (p : ℕ → Bool) (n : ℕ) → Decides (every p n) ((s : ℕ) → s < n → p s ≡ true)
decides_every p n = Decides-below_and p (λ s. p s ≡ true) (every p) (λ s. (λ e. e, λ e. e)) refl (λ _. refl) n

pub any_at : (p : ℕ → Bool) (n s : ℕ) → s < n → p s ≡ true → any p n ≡ true
any_at p n s h e = (decides_any p n).1 (s, h, e)

-- no s below n has p s
pub any_none : (p : ℕ → Bool) (n : ℕ) → ((s : ℕ) → s < n → p s ≡ false) → any p n ≡ false
any_none p zero h = refl
any_none p (suc n) h = rw (h n (omega arith)) (any_none p n (λ s l. h s (omega arith)))

pub every_not : (p : ℕ → Bool) (n s : ℕ) → s < n → p s ≡ false → every p n ≡ false
every_not p n s h e =
    ⊎_elim (λ (x : every p n ≡ true). absurd (both_ways (p s) e ((decides_every p n).0 x s h))) (λ (x : every p n ≡ false). x)
    (cases_Bool (every p n))

pub any_same : (p q : ℕ → Bool) (n : ℕ) → ((s : ℕ) → p s ≡ q s) → any p n ≡ any q n
any_same p q zero h = refl
any_same p q (suc n) h = ap (λ z. z || any p n) (h n) ∙ ap (λ z. q n || z) (any_same p q n h)
