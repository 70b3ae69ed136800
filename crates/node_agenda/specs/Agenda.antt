-- The agenda of a change.
use Rattle.std.specs.Prelude.{◌≡◌, ◌⊎◌, ◌≤◌, ◌<◌, ◌==◌, ◌&&◌, not, ℕ, Bool, true, false, List, [], Option, Some}
use Rattle.defs_match.specs.Laws.{IsIn}
use Rattle.soar_wm.specs.declared.element.Element.{Element}
use Rattle.node_table.specs.declared.node.Step.{Step}
use Rattle.node_table.specs.declared.node.NodeKey.{NodeKey}
use Rattle.node_table.specs.declared.node.Node.{Node}
use Rattle.node_table.specs.Nodes.{key_at, uppers}
use Rattle.node_table.specs.Serving.{come_at, gone_at, LeavesOut}
use Rattle.node_table.specs.Content.{IsSettled, IsTable}
use Rattle.node_table.specs.Hearing.{is_nothing, hears_some, HasNoRows, IsBarren, MayHear}
use Rattle.node_agenda.specs.declared.turns.Turn.{Turn}
use Rattle.node_agenda.specs.declared.turns.TurnKey.{TurnKey}
use Rattle.node_agenda.specs.Turns.{under}

abbrev pub turn_of : Node → ℕ → Turn
turn_of node n = record { made = node.made; node = n }

abbrev pub is_changed : Node → Bool
is_changed node = not (is_nothing node.come.items && is_nothing node.gone.items)

-- the agenda after a node was served, by the turns under its number
pub record GoesOn (node : Option Node) (n : ℕ) (below : List TurnKey) (old new : List Turn) : Type 0 where
  pub kept : (t : Turn) → IsIn t old → IsIn t new
  pub children : (m : Node) → node ≡ Some m → is_changed m ≡ true → (t : Turn) → IsIn (under n t) below → IsIn t new
  pub from : (t : Turn) → IsIn t new → IsIn (under n t) below ⊎ IsIn t old

-- nothing that a node of this key reads has changed
pub record IsIdle (nodes : ℕ → Option Node) (stamp : ℕ) (come goes : Option Element) (key : NodeKey) : Type 0 where
  pub out : LeavesOut key.step come goes
  pub none_came : (m : ℕ) → IsIn m (uppers key) → (upper : Node) → nodes m ≡ Some upper → come_at stamp upper ≡ []
  pub none_went : (m : ℕ) → IsIn m (uppers key) → (upper : Node) → nodes m ≡ Some upper → gone_at stamp upper ≡ []

-- the parent of a node of this key tells nothing and has no rows
pub record IsRowless (nodes : ℕ → Option Node) (stamp : ℕ) (key : NodeKey) : Type 0 where
  pub none_came : (upper : Node) → nodes key.parent ≡ Some upper → come_at stamp upper ≡ []
  pub none_went : (upper : Node) → nodes key.parent ≡ Some upper → gone_at stamp upper ≡ []
  pub no_rows : HasNoRows nodes key.parent

-- a join that takes none of the elements, before and after
pub record TakesNothing (step : Step) (elements : List Element) (come goes : Option Element) : Type 0 where
  pub out : LeavesOut step come goes
  pub barren : IsBarren step elements

-- A node of this key need not be served, by whether it hears of rows and of elements.
abbrev pub IsStill : (ℕ → Option Node) → List Element → ℕ → Option Element → Option Element → NodeKey → Bool → Bool → Type 0
IsStill nodes elements stamp come goes key true true = IsIdle nodes stamp come goes key
IsStill nodes elements stamp come goes key true false = IsRowless nodes stamp key
IsStill nodes elements stamp come goes key false true = TakesNothing key.step elements come goes
IsStill nodes elements stamp come goes key false false = ⊥

abbrev pub IsTurn : (ℕ → Option Node) → ℕ → Turn → Type 0
IsTurn nodes floor t = (node : Node) × (key : NodeKey) × (nodes t.node ≡ Some node) × (node.key ≡ Some key) × (node.made ≡ t.made) × (floor ≤ t.made)

-- the turn of a node that reads the node of its number
abbrev pub IsReader : (ℕ → Option Node) → TurnKey → Type 0
IsReader nodes c = (node : Node) × (key : NodeKey) × (nodes c.turn.node ≡ Some node) × (node.key ≡ Some key) × IsIn c.number (uppers key) × (node.made ≡ c.turn.made)

-- each node that hears of rows stands under those that it reads, and nothing else does
pub record IsLinked (nodes : ℕ → Option Node) (below : List TurnKey) : Type 0 where
  pub covers : (n : ℕ) (node : Node) (key : NodeKey) → nodes n ≡ Some node → node.key ≡ Some key → node.hears.rows ≡ true → (m : ℕ) → IsIn m (uppers key) → IsIn (under m (turn_of node n)) below
  pub names : (c : TurnKey) → IsIn c below → IsReader nodes c

-- Between two turns: each node that a change can reach is served, on the agenda, or still, and those that were served were made before the floor
-- and hear of all that may change their rows from then on.
pub record IsLoop (nodes : ℕ → Option Node) (agenda : List Turn) (below : List TurnKey) (elements : List Element) (stamp floor end : ℕ) (come goes : Option Element) : Type 0 where
  pub table : IsTable nodes end
  pub turns : (t : Turn) → IsIn t agenda → IsTurn nodes floor t
  pub done : (n : ℕ) (node : Node) → nodes n ≡ Some node → (node.stamp == stamp) ≡ true → node.made < floor
  pub waits : (n : ℕ) (node : Node) (key : NodeKey) → nodes n ≡ Some node → node.key ≡ Some key → (node.stamp == stamp) ≡ false
      → IsIn (turn_of node n) agenda ⊎ IsStill nodes elements stamp come goes key node.hears.rows node.hears.elements
  pub heard : (n : ℕ) (node : Node) (key : NodeKey) → nodes n ≡ Some node → node.key ≡ Some key → (node.stamp == stamp) ≡ true → MayHear nodes key elements node.hears.rows node.hears.elements
  pub hears : (n : ℕ) (node : Node) (key : NodeKey) → nodes n ≡ Some node → node.key ≡ Some key → hears_some node.hears ≡ true
  pub links : IsLinked nodes below

-- What of a node is not its rows stays, but for the stamp of those that were served and what they hear of.
pub record Settles (old new : ℕ → Option Node) (stamp : ℕ) : Type 0 where
  pub stays : (n : ℕ) (node : Node) → new n ≡ Some node → (was : Node) × (old n ≡ Some was) × (node.key ≡ was.key) × (node.made ≡ was.made) × (node.alpha ≡ was.alpha) × (node.requests ≡ was.requests) × ((node.stamp ≡ was.stamp) ⊎ (node.stamp ≡ stamp))
  pub still : (n : ℕ) (was : Node) → old n ≡ Some was → (node : Node) × (new n ≡ Some node)

-- each node that served the change is listed
abbrev pub AreServed : (ℕ → Option Node) → ℕ → List ℕ → Type 0
AreServed nodes stamp served = (n : ℕ) (node : Node) → nodes n ≡ Some node → (node.stamp == stamp) ≡ true → IsIn n served

-- Each node tells what the change made of its rows, and one that was not served that they stay.
abbrev pub AllTell : (ℕ → Option Node) → ℕ → List Element → List Element → Type 0
AllTell nodes stamp w0 w1 = (n : ℕ) (node : Node) → nodes n ≡ Some node → IsSettled (key_at nodes) stamp w0 w1 n node
