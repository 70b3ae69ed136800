-- What callers see of what a network keeps.
use Rattle.std.specs.Prelude.{◌≡◌, map, false}
use Rattle.std.specs.Option.{option_map}
use Rattle.rete_beta.specs.declared.joins.Joins.TheInside.{Inside}
use Rattle.rete_beta.specs.Joins.{JoinsOf}
use Rattle.rete_beta.specs.Networks.{IsNetwork, asked_of}
use Rattle.rete_beta.specs.Told.{told_in}

abbrev pub joins_view : Inside → JoinsOf
joins_view j = record { nodes = map (option_map asked_of) j.network.nodes.slots; told = map told_in j.network.nodes.slots; elements = j.network.alpha.elements; failed = j.failed }

-- unless memory was refused
abbrev pub IsJoins : Inside → Type 0
IsJoins j = j.failed ≡ false → IsNetwork j.network
