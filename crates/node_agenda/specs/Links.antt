-- Which nodes stand under what they hear of.
use Rattle.std.specs.Prelude.{◌≡◌, ◌↔◌, ◌⊎◌, ℕ, Bool, true, false, List, [], ◌∷◌, map, Option, Some, None, if◌then◌else◌}
use Rattle.defs_match.specs.Laws.{IsIn}
use Rattle.node_table.specs.declared.node.NodeKey.{NodeKey}
use Rattle.node_table.specs.declared.node.Node.{Node}
use Rattle.node_table.specs.Nodes.{uppers}
use Rattle.node_table.specs.Asked.{Asker, asker_by}
use Rattle.node_table.specs.Making.{Seen, seen_at}
use Rattle.node_agenda.specs.declared.turns.Turn.{Turn}
use Rattle.node_agenda.specs.declared.turns.TurnKey.{TurnKey}
use Rattle.node_agenda.specs.Turns.{under}

abbrev pub seen_turn : Seen → ℕ → Turn
seen_turn s n = record { made = s.made; node = n }

-- a turn under each of the nodes that one of this key reads
abbrev pub links_by : Option NodeKey → Turn → List TurnKey
links_by None t = []
links_by (Some key) t = map (λ m. under m t) (uppers key)

abbrev pub where_heard : Bool → List TurnKey → List TurnKey
where_heard heard keys = if heard then keys else []

-- a node that hears of rows stands under each of those that it reads
abbrev pub links_of : Option Seen → ℕ → List TurnKey
links_of None n = []
links_of (Some s) n = where_heard s.hears.rows (links_by s.key (seen_turn s n))

-- a turn under the number of a join's pattern
abbrev pub takers_by : Option Asker → Turn → List TurnKey
takers_by None t = []
takers_by (Some q) t = under q.0 t ∷ []

-- a join that hears of elements stands under the number of its pattern
abbrev pub takers_of : Option Seen → ℕ → List TurnKey
takers_of None n = []
takers_of (Some s) n = where_heard s.hears.elements (takers_by (asker_by s.alpha s.key) (seen_turn s n))

-- the keys are those of the live nodes, and no others
abbrev pub IsSpread : (Option Seen → ℕ → List TurnKey) → (ℕ → Option Seen) → List TurnKey → Type 0
IsSpread f seen keys = (c : TurnKey) → IsIn c keys ↔ IsIn c (f (seen c.turn.node) c.turn.node)

-- each node stands under what it hears of, and nothing else does
pub record AreLinked (nodes : ℕ → Option Node) (below takers : List TurnKey) : Type 0 where
  pub rows : IsSpread links_of (seen_at nodes) below
  pub elements : IsSpread takers_of (seen_at nodes) takers

-- The index after a node hears of something that it did not hear of, or the other way: with or without its own keys.
abbrev pub Relinks : Bool → Bool → List TurnKey → List TurnKey → List TurnKey → Type 0
Relinks true true own old new = new ≡ old
Relinks false false own old new = new ≡ old
Relinks false true own old new = (c : TurnKey) → IsIn c new ↔ (IsIn c own ⊎ IsIn c old)
Relinks true false own old new = (c : TurnKey) → IsIn c new ↔ (IsIn c old × (IsIn c own → ⊥))
