use Rattle.std.proofs.Common.{◌≡◌, map, take}
use Rattle.wave_firings.specs.Held.{held_as}
use Rattle.wave_firings.proofs.held.held_of.Given as goal

abbrev pub invariant-wishes : goal.invariant-wishes
invariant-wishes l = l.held ≡ map (held_as l.goals l.operator_kind) (take l.wish-index l.wishes)
