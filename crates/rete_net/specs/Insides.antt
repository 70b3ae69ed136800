-- What callers see of what a matcher keeps.
use Rattle.std.specs.Prelude.{◌≡◌, false}
use Rattle.std.specs.Map.{values_of}
use Rattle.rete_net.specs.declared.net.Net.TheInside.{Inside}
use Rattle.rete_net.specs.Loads.{IsLoaded}
use Rattle.rete_net.specs.Nets.{NetOf}

abbrev pub net_view : Inside → NetOf
net_view n = record { chains = values_of n.loaded.chains.entries; nodes = n.loaded.joins.nodes; elements = n.loaded.joins.elements; failed = n.failed }

-- unless memory was refused
abbrev pub IsNet : Inside → Type 0
IsNet n = n.failed ≡ false → IsLoaded n.loaded
