-- What a network keeps.
use Rattle.std.specs.Prelude.{◌≡◌, ◌≢◌, ◌↔◌, ◌<◌, nat_lt, ℕ, Bool, true, false, List, [], ◌∷◌, Option, Some, None}
use Rattle.std.specs.Option.{option_map}
use Rattle.std.specs.BTreeMap as numbers_of
use Rattle.slab.specs.Slab.{get}
use Rattle.soar_wm.specs.declared.element.Element.{Element}
use Rattle.soar_wm.specs.WorkingMemory.{IsRising}
use Rattle.defs_match.specs.Laws.{IsIn}
use Rattle.rete_alpha.specs.Alphas.{AlphaOf, Asked as Wanted, asked_at}
use Rattle.rete_alpha.specs.Taking.{takes}
use Rattle.node_memory.specs.Changes.{ElementsChange}
use Rattle.node_memory.specs.Held.{listed, Holds, SameElements}
use Rattle.defs_match.specs.Rows.{empty_row}
use Rattle.node_table.specs.declared.node.NodeKey.{NodeKey}
use Rattle.node_table.specs.declared.node.Node.{Node}
use Rattle.node_table.specs.Nodes.{key_cmp}
use Rattle.node_table.specs.declared.node.Step.{Step}
use Rattle.node_table.specs.Serving.{found, AreIndexed}
use Rattle.node_table.specs.Content.{AllHold}
use Rattle.node_table.specs.Hearing.{AllHear}
use Rattle.node_table.specs.Making.{IsWhole, Seen, seen_at}
use Rattle.node_agenda.specs.declared.turns.Turn.{Turn}
use Rattle.node_agenda.specs.declared.turns.TurnKey.{TurnKey}
use Rattle.node_agenda.specs.Turns.{under}
use Rattle.node_agenda.specs.Links.{links_of, takers_of, IsSpread}
use Rattle.rete_beta.specs.Joins.{Asked}
use Rattle.rete_beta.specs.declared.network.Network.{Network}

-- the nodes hold their rows over the elements w
pub record IsNetworkAt (n : Network) (w : List Element) : Type 0 where
  pub works : n.alpha.failed ≡ false
  pub whole : IsWhole (numbers_of.get key_cmp n.numbers) n.nodes.slots n.alpha n.made
  pub links : IsSpread links_of (seen_at (get n.nodes)) n.below
  pub takers : IsSpread takers_of (seen_at (get n.nodes)) n.takers
  pub stamps : (k : ℕ) (s : Seen) → seen_at (get n.nodes) k ≡ Some s → s.stamp < n.stamp
  pub elements : SameElements n.index n.alpha.elements
  pub rising : IsRising n.alpha.elements
  pub hear : AllHear (get n.nodes) w
  pub holds : AllHold (get n.nodes) w
  pub root : (s : Seen) × (seen_at (get n.nodes) 0 ≡ Some s) × (s.key ≡ None)

abbrev pub IsNetwork : Network → Type 0
IsNetwork n = IsNetworkAt n n.alpha.elements

-- a number whose pattern takes an element
abbrev pub TakesAt : AlphaOf → Element → ℕ → Type 0
TakesAt alpha e a = (q : Wanted) × (asked_at alpha a ≡ Some q) × (takes q.pattern e ≡ true)

-- the turns of the joins whose patterns take an element
abbrev pub IsFirst : AlphaOf → List TurnKey → Element → List Turn → Type 0
IsFirst alpha takers e agenda = (t : Turn) → IsIn t agenda ↔ ((a : ℕ) × TakesAt alpha e a × IsIn (under a t) takers)

-- The elements have changed by one, and the nodes have not.
pub record IsBehind (n : Network) (come goes : Option Element) : Type 0 where
  pub before : List Element
  pub network : IsNetworkAt n before
  pub change : ElementsChange before n.alpha.elements (listed come) (listed goes)

-- the element is the one that comes or goes
pub record IsOneOf (e : Element) (come goes : Option Element) : Type 0 where
  pub comes : (x : Element) → IsIn x (listed come) → e ≡ x
  pub leaves : (x : Element) → IsIn x (listed goes) → e ≡ x

-- a turn stands under one of these numbers
abbrev pub IsUnderAny : List ℕ → List TurnKey → Turn → Type 0
IsUnderAny numbers takers t = (a : ℕ) × IsIn a numbers × IsIn (under a t) takers

abbrev pub key_made : ℕ → Step → NodeKey
key_made parent step = record { parent = parent; step = step }

abbrev pub asked_of : Node → Asked
asked_of node = record { key = node.key; requests = node.requests }

abbrev pub asked_in : (ℕ → Option Node) → ℕ → Option Asked
asked_in nodes n = option_map asked_of (nodes n)

-- no node has another key or count of requests
abbrev pub SameAsked : (ℕ → Option Node) → (ℕ → Option Node) → Type 0
SameAsked old new = (n : ℕ) → asked_in new n ≡ asked_in old n

-- the root, with its row
pub record IsRoot (node : Node) : Type 0 where
  pub key : node.key ≡ None
  pub tags : node.tags ≡ 0
  pub made : node.made ≡ 0
  pub stamp : node.stamp ≡ 0
  pub requests : node.requests ≡ 1
  pub indexed : AreIndexed node.memory
  pub holds : Holds (found node.memory) (empty_row ∷ [])

-- node 0 is the root, and there is no other
pub record IsRootAlone (nodes : ℕ → Option Node) : Type 0 where
  pub root : Node
  pub is : IsRoot root
  pub here : nodes 0 ≡ Some root
  pub others : (k : ℕ) → k ≢ 0 → nodes k ≡ None

-- the root alone
pub record StartsWith (nodes : ℕ → Option Node) : Type 0 where
  pub root : asked_in nodes 0 ≡ Some (record { key = None; requests = 1 })
  pub others : (k : ℕ) → k ≢ 0 → nodes k ≡ None

-- more than one request stands for the node
abbrev pub has_more : Option Node → Bool
has_more None = false
has_more (Some node) = nat_lt 1 node.requests
