-- Nodes under their numbers and their keys.
use Rattle.std.specs.Prelude.{◌≡◌, ◌↔◌, ◌+◌, ◌-◌, nat_lt, ℕ, List, [], ◌∷◌, Option, Some, None, option_and_then, if◌then◌else◌}
use Rattle.std.specs.declared.cmp.Ordering.{Ordering}
use Rattle.node_table.specs.contracts.node.NodeKeyOrd.TheImpl as ord
use Rattle.node_table.specs.declared.node.Step.{Step}
use Rattle.node_table.specs.declared.node.Step.TheVariants.{Join, Negation}
use Rattle.node_table.specs.declared.node.NodeKey.{NodeKey}
use Rattle.node_table.specs.declared.node.Node.{Node}

abbrev pub KeyOf : Type 0
KeyOf = NodeKey

abbrev pub NodeOf : Type 0
NodeOf = Node

abbrev pub key_cmp : NodeKey → NodeKey → Ordering
key_cmp = (ord.ghosts).cmp

abbrev pub key_of : Node → Option NodeKey
key_of node = node.key

-- the key of a number
abbrev pub key_at : (ℕ → Option Node) → ℕ → Option NodeKey
key_at nodes n = option_and_then key_of (nodes n)

-- the nodes whose rows a step reads beside those of the parent
abbrev pub inner_of : Step → List ℕ
inner_of (Join p) = []
inner_of (Negation m) = m ∷ []

-- the nodes whose rows a node reads
abbrev pub uppers : NodeKey → List ℕ
uppers key = key.parent ∷ inner_of key.step

-- each key that a number has is found under it, and no other
abbrev pub IsNumbered : {K : Type 0} → (K → Option ℕ) → (ℕ → Option K) → Type 0
IsNumbered {K = K} number key = (k : K) (n : ℕ) → (number k ≡ Some n) ↔ (key n ≡ Some k)

-- ---- requests

abbrev pub with_requests : ℕ → Node → Node
with_requests requests node = record node { requests = requests }

abbrev pub one_more : Node → Node
one_more node = record node { requests = node.requests + 1 }

-- with the last request the node goes
abbrev pub one_less : Option Node → Option Node
one_less None = None
one_less (Some node) = if nat_lt 1 node.requests then Some (record node { requests = node.requests - 1 }) else None
