-- What filters are tried on. Assumes nothing.
use Rattle.std.specs.Prelude.{◌≡◌, ℕ, ◌<◌, List, All, vec_items, vec_len}
use Rattle.pace.specs.declared.input.Input.{Input}

-- codes of pulses
abbrev pub Pulses : List ℕ → Type 0
Pulses codes = All (λ code. code < 20) codes

-- the longest query and the longest trace of pulses, of which so many rows are marked
pub record Sized (rows : ℕ) (input : Input) : Type 0 where
  pub query : vec_len input.query ≡ 1024
  pub trace : vec_len input.trace ≡ 4096
  pub marked : input.rows ≡ rows
  pub codes : Pulses (vec_items input.query) × Pulses (vec_items input.trace)
