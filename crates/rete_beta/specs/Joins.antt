-- What callers see of a network of joins and negations.
use Rattle.std.specs.Prelude.{◌≡◌, ◌≢◌, ◌<◌, ◌+◌, ◌-◌, nat_lt, ℕ, Bool, false, List, [], Option, Some, None, IsSome, option_and_then, slice_index_or, count_by, is_some, if◌then◌else◌}
use Rattle.soar_wm.specs.declared.element.Element.{Element}
use Rattle.defs_match.specs.Laws.{IsIn}
use Rattle.defs_match.specs.Rows.{Row}
use Rattle.node_table.specs.declared.node.NodeKey.{NodeKey}
use Rattle.node_table.specs.Nodes.{uppers}

-- a node's parent and step, and how many requests for it stand; the root has no key
pub record Asked : Type 0 where
  pub key : Option NodeKey
  pub requests : ℕ

-- what the last change that a node served made of its rows: some that came, and tags of some that went
pub record Told : Type 0 where
  pub come : List Row
  pub gone : List (List ℕ)

abbrev pub nothing_told : Told
nothing_told = record { come = []; gone = [] }

-- the live nodes under their numbers, what each told, the elements by tag, and whether memory was refused
pub record JoinsOf : Type 0 where
  pub nodes : List (Option Asked)
  pub told : List Told
  pub elements : List Element
  pub failed : Bool

-- the live node of a number
abbrev pub node_at : JoinsOf → ℕ → Option Asked
node_at j n = slice_index_or j.nodes n None

abbrev pub key_of : Asked → Option NodeKey
key_of a = a.key

-- its key
abbrev pub key_at : JoinsOf → ℕ → Option NodeKey
key_at j n = option_and_then key_of (node_at j n)

-- what the node of a number told
abbrev pub told_at : JoinsOf → ℕ → Told
told_at j n = slice_index_or j.told n nothing_told

abbrev pub IsLive : JoinsOf → ℕ → Type 0
IsLive j n = IsSome (node_at j n)

-- how many nodes are live
abbrev pub live_count : JoinsOf → ℕ
live_count j = count_by is_some j.nodes

-- no node is another than before
abbrev pub SameNodes : JoinsOf → JoinsOf → Type 0
SameNodes old new = (k : ℕ) → node_at new k ≡ node_at old k

abbrev pub asked_more : NodeKey → Option Asked → Asked
asked_more key None = record { key = Some key; requests = 1 }
asked_more key (Some a) = record { key = a.key; requests = a.requests + 1 }

-- one request more for a key: an equal one keeps its number, and a new one gets one that is not live
pub record Asks (old new : ℕ → Option Asked) (key : NodeKey) (n : ℕ) : Type 0 where
  pub equal : (m : ℕ) (a : Asked) → old m ≡ Some a → a.key ≡ Some key → m ≡ n
  pub own : (a : Asked) → old n ≡ Some a → a.key ≡ Some key
  pub here : new n ≡ Some (asked_more key (old n))
  pub others : (k : ℕ) → k ≢ n → new k ≡ old k

abbrev pub asked_less : Option Asked → Option Asked
asked_less None = None
asked_less (Some a) = if nat_lt 1 a.requests then Some (record { key = a.key; requests = a.requests - 1 }) else None

-- a node that is not the root, and that no node reads where this is its last request
pub record CanDrop (nodes : ℕ → Option Asked) (n : ℕ) : Type 0 where
  pub asked : Asked
  pub key : NodeKey
  pub here : nodes n ≡ Some asked
  pub keyed : asked.key ≡ Some key
  pub last : nat_lt 1 asked.requests ≡ false → (k : ℕ) (a : Asked) (other : NodeKey) → nodes k ≡ Some a → a.key ≡ Some other → IsIn n (uppers other) → ⊥

-- one request less; with the last the node is live no longer
pub record Drops (old new : ℕ → Option Asked) (n : ℕ) : Type 0 where
  pub here : new n ≡ asked_less (old n)
  pub others : (k : ℕ) → k ≢ n → new k ≡ old k

-- the root alone
pub record IsStart (j : JoinsOf) : Type 0 where
  pub root : node_at j 0 ≡ Some (record { key = None; requests = 1 })
  pub others : (k : ℕ) → k ≢ 0 → node_at j k ≡ None
  pub elements : j.elements ≡ []
  pub works : j.failed ≡ false

-- no two live nodes have the same key, and each has a request
pub record AreNodes (nodes : ℕ → Option Asked) : Type 0 where
  pub differ : (m n : ℕ) (a b : Asked) (key : NodeKey) → nodes m ≡ Some a → nodes n ≡ Some b → a.key ≡ Some key → b.key ≡ Some key → m ≡ n
  pub asked : (n : ℕ) (a : Asked) → nodes n ≡ Some a → 0 < a.requests
