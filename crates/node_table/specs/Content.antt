-- What the nodes of the table hold, before and after a change.
use Rattle.std.specs.Prelude.{◌≡◌, ◌<◌, ◌==◌, ℕ, zero, suc, Bool, true, false, List, [], ◌∷◌, Option, Some, None}
use Rattle.defs_match.specs.Laws.{IsIn}
use Rattle.defs_match.specs.Rows.{Row, empty_row}
use Rattle.soar_wm.specs.declared.element.Element.{Element}
use Rattle.node_memory.specs.Changes.{RowsChange}
use Rattle.node_memory.specs.Held.{Holds}
use Rattle.node_table.specs.declared.node.NodeKey.{NodeKey}
use Rattle.node_table.specs.declared.node.Node.{Node}
use Rattle.node_table.specs.Nodes.{key_at, uppers}
use Rattle.node_table.specs.Serving.{found, AreIndexed, CanJoin, come_at, gone_at, stepped, tags_after}

-- what a node makes of the rows of others
abbrev pub after : Option NodeKey → List Element → (ℕ → List Row) → List Row
after None w up = empty_row ∷ []
after (Some key) w up = stepped key.step w up (up key.parent)

-- the rows of a node, by a number that is at least when it was made
abbrev pub content : (ℕ → Option NodeKey) → ℕ → ℕ → List Element → List Row
content keys zero n w = empty_row ∷ []
content keys (suc h) n w = after (keys n) w (λ m. content keys h m w)

-- a live node that was made before
pub record IsAbove (nodes : ℕ → Option Node) (node : Node) (m : ℕ) : Type 0 where
  pub upper : Node
  pub there : nodes m ≡ Some upper
  pub made : upper.made < node.made

-- the nodes that it reads were made before it, and its parent is indexed for it
pub record IsBelow (nodes : ℕ → Option Node) (node : Node) (key : NodeKey) : Type 0 where
  pub each : (m : ℕ) → IsIn m (uppers key) → IsAbove nodes node m
  pub parent : Node
  pub above : nodes key.parent ≡ Some parent
  pub tags : node.tags ≡ tags_after key.step parent.tags
  pub joined : CanJoin key.step parent.memory

pub record IsTable (nodes : ℕ → Option Node) (end : ℕ) : Type 0 where
  pub indexed : (n : ℕ) (node : Node) → nodes n ≡ Some node → AreIndexed node.memory
  pub roots : (n : ℕ) (node : Node) → nodes n ≡ Some node → node.key ≡ None → node.tags ≡ zero
  pub below : (n : ℕ) (node : Node) (key : NodeKey) → nodes n ≡ Some node → node.key ≡ Some key → IsBelow nodes node key
  pub once : (n k : ℕ) (node other : Node) → nodes n ≡ Some node → nodes k ≡ Some other → node.made ≡ other.made → n ≡ k
  pub early : (n : ℕ) (node : Node) → nodes n ≡ Some node → node.made < end
  pub asked : (n : ℕ) (node : Node) → nodes n ≡ Some node → zero < node.requests

-- What a node tells is the change of its rows. One that was not served tells that they stay.
abbrev pub IsSettled : (ℕ → Option NodeKey) → ℕ → List Element → List Element → ℕ → Node → Type 0
IsSettled keys stamp w0 w1 n node = RowsChange (content keys node.made n w0) (content keys node.made n w1) (come_at stamp node) (gone_at stamp node)

-- A node that was served holds its rows after the change, and another those before it.
abbrev pub StandsAt : (ℕ → Option NodeKey) → List Element → List Element → ℕ → Node → Bool → Type 0
StandsAt keys w0 w1 n node false = Holds (found node.memory) (content keys node.made n w0)
StandsAt keys w0 w1 n node true = Holds (found node.memory) (content keys node.made n w1) × RowsChange (content keys node.made n w0) (content keys node.made n w1) node.come.items node.gone.items

abbrev pub Stands : (ℕ → Option Node) → ℕ → List Element → List Element → Type 0
Stands nodes stamp w0 w1 = (n : ℕ) (node : Node) → nodes n ≡ Some node → StandsAt (key_at nodes) w0 w1 n node (node.stamp == stamp)

-- Every node holds its rows.
abbrev pub AllHold : (ℕ → Option Node) → List Element → Type 0
AllHold nodes w = (n : ℕ) (node : Node) → nodes n ≡ Some node → Holds (found node.memory) (content (key_at nodes) node.made n w)
