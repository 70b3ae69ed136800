-- What goes free with a node's last request.
use Rattle.std.specs.Prelude.{nat_lt, ℕ, Option, Some, None, if◌then◌else◌}
use Rattle.std.specs.Option.{option_map}
use Rattle.node_table.specs.declared.node.Node.{Node}
use Rattle.node_table.specs.Asked.{Asker, asker}

abbrev pub number_of : Asker → ℕ
number_of q = q.0

-- the number that the node asked for, where this is its last request
abbrev pub freed : Option Node → Option ℕ
freed None = None
freed (Some node) = if nat_lt 1 node.requests then None else option_map number_of (asker node)
