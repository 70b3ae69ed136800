-- A new node, and its parent made ready for it.
use Rattle.std.specs.Prelude.{◌≡◌, ◌≢◌, ℕ, List, Option, Some, None, slice_index_or}
use Rattle.std.specs.Option.{option_map}
use Rattle.defs_match.specs.Laws.{IsIn}
use Rattle.defs_match.specs.Rows.{Row}
use Rattle.soar_wm.specs.declared.element.Element.{Element}
use Rattle.rete_alpha.specs.Alphas.{AlphaOf, Asks}
use Rattle.join_parts.specs.Known.{constants_of}
use Rattle.node_memory.specs.declared.memory.Memory.{Memory}
use Rattle.node_memory.specs.declared.symbols.Joined.{Joined}
use Rattle.node_memory.specs.Changes.{OneEach}
use Rattle.node_memory.specs.Held.{Holds, SameElements}
use Rattle.node_table.specs.declared.node.Step.{Step}
use Rattle.node_table.specs.declared.node.Step.TheVariants.{Join, Negation}
use Rattle.node_table.specs.declared.node.NodeKey.{NodeKey}
use Rattle.node_table.specs.declared.node.Hears.{Hears}
use Rattle.node_table.specs.declared.node.Node.{Node}
use Rattle.node_table.specs.Nodes.{key_at, inner_of, uppers, IsNumbered}
use Rattle.node_table.specs.Serving.{found, AreIndexed, CanJoin, stepped, tags_after}
use Rattle.node_table.specs.Content.{IsTable}
use Rattle.node_table.specs.Asked.{IsAsked}

-- it holds the same rows, and is indexed for all that it was, and for the step
pub record IsReady (old new : Node) (step : Step) : Type 0 where
  pub same : new ≡ record old { memory = new.memory }
  pub rows : new.memory.rows.entries ≡ old.memory.rows.entries
  pub kept : (j : Joined) → IsIn j old.memory.joined.items → IsIn j new.memory.joined.items
  pub joined : CanJoin step new.memory
  pub indexed : AreIndexed new.memory

abbrev pub ReadyAt : Option Node → Option Node → Step → Type 0
ReadyAt old new step = (was : Node) → old ≡ Some was → (now : Node) × (new ≡ Some now) × IsReady was now step

-- a live node that is ready for one of this key, and the others that it is to read
pub record IsParent (nodes : ℕ → Option Node) (key : NodeKey) : Type 0 where
  pub parent : Node
  pub above : nodes key.parent ≡ Some parent
  pub joined : CanJoin key.step parent.memory
  pub indexed : AreIndexed parent.memory
  pub inner : (m : ℕ) → IsIn m (inner_of key.step) → (inside : Node) × (nodes m ≡ Some inside)

-- a node, if it is live, holds these rows
abbrev pub HoldsAt : (ℕ → Option Node) → ℕ → List Row → Type 0
HoldsAt nodes m rs = (upper : Node) → nodes m ≡ Some upper → Holds (found upper.memory) rs

-- A memory holds what the step of a key makes of the rows of the nodes that it reads.
abbrev pub IsFilled : (ℕ → Option Node) → NodeKey → List Element → Memory → Type 0
IsFilled nodes key index memory =
    (up : ℕ → List Row) (w : List Element) → ((m : ℕ) → IsIn m (uppers key) → HoldsAt nodes m (up m)) → SameElements index w
    → OneEach (stepped key.step w up (up key.parent)) → Holds (found memory) (stepped key.step w up (up key.parent))

-- a node below this one, with its rows
pub record IsBelowIt (nodes : ℕ → Option Node) (key : NodeKey) (index : List Element) (number time : ℕ) (parent node : Node) : Type 0 where
  pub keyed : node.key ≡ Some key
  pub tags : node.tags ≡ tags_after key.step parent.tags
  pub made : node.made ≡ time
  pub stamp : node.stamp ≡ 0
  pub alpha : node.alpha ≡ number
  pub requests : node.requests ≡ 1
  pub indexed : AreIndexed node.memory
  pub filled : IsFilled nodes key index node.memory

abbrev pub IsNewNode : (ℕ → Option Node) → NodeKey → List Element → ℕ → ℕ → Node → Type 0
IsNewNode nodes key index number time node = (parent : Node) → nodes key.parent ≡ Some parent → IsBelowIt nodes key index number time parent node

-- a join asks for the constants of its pattern, and a negation for nothing
abbrev pub AsksFor : AlphaOf → AlphaOf → Step → ℕ → Type 0
AsksFor old new (Join p) n = Asks old new (constants_of p) n
AsksFor old new (Negation m) n = new ≡ old

-- what of a node is not its rows
pub record Seen : Type 0 where
  pub key : Option NodeKey
  pub made : ℕ
  pub stamp : ℕ
  pub alpha : ℕ
  pub hears : Hears
  pub requests : ℕ

abbrev pub seen : Node → Seen
seen node = record { key = node.key; made = node.made; stamp = node.stamp; alpha = node.alpha; hears = node.hears; requests = node.requests }

abbrev pub seen_at : (ℕ → Option Node) → ℕ → Option Seen
seen_at nodes n = option_map seen (nodes n)

-- a node of this key, and the others as they were, but for their indices
pub record Adds (old new : ℕ → Option Node) (key : NodeKey) (number time n : ℕ) : Type 0 where
  pub hears : Hears
  pub vacant : old n ≡ None
  pub here : seen_at new n ≡ Some (record { key = Some key; made = time; stamp = 0; alpha = number; hears = hears; requests = 1 })
  pub others : (k : ℕ) → k ≢ n → seen_at new k ≡ seen_at old k

-- the keys, the nodes and what they ask for
pub record IsWhole (number : NodeKey → Option ℕ) (slots : List (Option Node)) (alpha : AlphaOf) (end : ℕ) : Type 0 where
  pub numbered : IsNumbered number (key_at (λ n. slice_index_or slots n None))
  pub table : IsTable (λ n. slice_index_or slots n None) end
  pub asked : IsAsked slots alpha
