-- How many variables each letter has.
use Rattle.std.specs.Prelude.{◌≡◌, ℕ, ◌+◌, ◌<◌, List, length, slice_index}
use Rattle.defs_soar.specs.Variablized.{Variablized, count_with}

-- the last numbers of the letters from A to Z count the variables that have them as small letters
pub record IsCounted (lasts : List ℕ) (before : List Variablized) : Type 0 where
  pub letters : length lasts ≡ 26
  pub each : (k : ℕ) → k < 26 → slice_index lasts k ≡ count_with (k + 97) before
