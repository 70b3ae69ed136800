-- New numbers of variables, found by their old ones.
use Rattle.std.specs.Prelude.{◌≡◌, ℕ, ◌<◌, List, length, slice_index}

-- each of these variables has its place among them beside its old number
abbrev pub ArePlaced : List ℕ → List ℕ → Type 0
ArePlaced order places = (place : ℕ) → place < length order → slice_index places (slice_index order place) ≡ place
