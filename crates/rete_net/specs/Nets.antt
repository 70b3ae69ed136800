-- What callers see of a matcher over a network.
use Rattle.std.specs.Prelude.{◌≡◌, ◌≢◌, ℕ, Bool, false, List, [], Option, None, IsSome, is_some, count_by, slice_index_or}
use Rattle.soar_wm.specs.declared.element.Element.{Element}
use Rattle.defs_match.specs.Laws.{IsIn}
use Rattle.rete_beta.specs.Joins.{AreNodes, Asked}
use Rattle.rete_net.specs.declared.chain.Chain.{Chain}
use Rattle.rete_net.specs.Chains.{AllServed}
use Rattle.rete_net.specs.Requests.{HasRoot, key_in}

-- the rules by number with their nodes, the live nodes under their numbers, the elements by tag, and whether memory was refused
pub record NetOf : Type 0 where
  pub chains : List Chain
  pub nodes : List (Option Asked)
  pub elements : List Element
  pub failed : Bool

-- the live node of a number
abbrev pub live_at : NetOf → ℕ → Option Asked
live_at n k = slice_index_or n.nodes k None

-- how many nodes are live
abbrev pub live_nodes : NetOf → ℕ
live_nodes n = count_by is_some n.nodes

-- no rule, and no element
pub record IsEmpty (n : NetOf) : Type 0 where
  pub chains : n.chains ≡ []
  pub elements : n.elements ≡ []
  pub works : n.failed ≡ false

-- No two live nodes have the same parent and step, the nodes of each rule stand on the way of its conditions, and each live node but the root is one of them.
pub record IsShared (n : NetOf) : Type 0 where
  pub differ : AreNodes (live_at n)
  pub root : HasRoot (live_at n)
  pub served : AllServed (key_in (live_at n)) n.chains
  pub needed : (k : ℕ) → IsSome (live_at n k) → k ≢ 0 → (c : Chain) × IsIn c n.chains × IsIn k c.nodes
