-- Shapes of patterns: which of their fields are constants, and their marks.
use Rattle.std.specs.Prelude.{◌≡◌, ◌+◌, ℕ, Bool, false, List, Option, None, slice_index_or, if◌then◌else◌}
use Rattle.std.specs.Map.{lookup}
use Rattle.std.specs.Option.{is_some}
use Rattle.rete_alpha.specs.declared.pattern.ConstPattern.{ConstPattern}
use Rattle.rete_alpha.specs.Slots.{pattern_eq}

abbrev pub PatternOf : Type 0
PatternOf = ConstPattern

-- patterns with their numbers
abbrev pub NumbersOf : Type 0
NumbersOf = List (ConstPattern × ℕ)

-- the number of a pattern
abbrev pub number_at : NumbersOf → ConstPattern → Option ℕ
number_at es p = lookup (pattern_eq p) es

-- a part counts where it is there
abbrev pub weight : ℕ → Bool → ℕ
weight part here = if here then part else 0

-- the place of a shape, below 32
abbrev pub shape : ConstPattern → ℕ
shape p = weight 16 p.accept + weight 8 p.state + weight 4 (is_some p.id) + weight 2 (is_some p.attr) + weight 1 (is_some p.value)

-- the shape was noted
abbrev pub has_shape : List Bool → ConstPattern → Bool
has_shape shapes p = slice_index_or shapes (shape p) false

-- a pattern whose shape was not noted has no number
abbrev pub IsShaped : (ConstPattern → Option ℕ) → List Bool → Type 0
IsShaped number shapes = (p : ConstPattern) → has_shape shapes p ≡ false → number p ≡ None
