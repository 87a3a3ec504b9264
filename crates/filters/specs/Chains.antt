-- The index of tuples: chains of the places that have one number. Assumes nothing.
use Rattle.std.specs.Prelude.{◌≡◌, ℕ, zero, suc, ◌<◌, ◌≤◌, cond, List, length, Option, Some, None, ◌==◌, slice_index}

-- one more than the last place below n that has the number h, and 0 where there is none
abbrev pub latest : (ℕ → ℕ) → ℕ → ℕ → ℕ
latest f h zero = 0
latest f h (suc n) = cond (f n == h) (suc n) (latest f h n)

-- the place that a head or a link leads to
abbrev pub place : ℕ → Option ℕ
place zero = None
place (suc i) = Some i

-- the head of h leads to the last of the n places that has the number h
abbrev pub Heads : (ℕ → ℕ) → ℕ → List ℕ → Type 0
Heads f n heads = (h : ℕ) → h < 1021 → slice_index heads h ≡ latest f h n

-- the link of a place leads to the last place before it that has its number
abbrev pub Links : (ℕ → ℕ) → ℕ → List ℕ → Type 0
Links f n links = (i : ℕ) → i < n → slice_index links i ≡ latest f (f i) i

-- the chains of the n places by their numbers f
pub record Chained (f : ℕ → ℕ) (n : ℕ) (heads links : List ℕ) : Type 0 where
  pub wide : length heads ≡ 1021
  pub long : length links ≡ 1024
  pub head : Heads f n heads
  pub link : Links f n links

-- the first n are 0, and the rest is as it was
pub record Cleared (n : ℕ) (before after : List ℕ) : Type 0 where
  pub keeps : length after ≡ length before
  pub blank : (x : ℕ) → x < n → slice_index after x ≡ 0
  pub rest : (x : ℕ) → n ≤ x → slice_index after x ≡ slice_index before x
