-- How candidates may be drawn.
use Rattle.std.specs.Prelude.{Bool, true, nat_le, ◌&&◌}
use Rattle.defs_soar.specs.declared.choice.Mode.{Mode}
use Rattle.defs_soar.specs.declared.choice.Mode.TheVariants as mode

-- a probability is at most 1
abbrev pub is_fraction : Mode → Bool
is_fraction (mode.EpsilonGreedy p q) = nat_le 1 q && nat_le p q
is_fraction other = true
