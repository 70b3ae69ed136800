-- The loaded rules, and the network that serves them.
use Rattle.std.specs.Prelude.{◌≡◌, ℕ, false, map, List, ◌∷◌, Option}
use Rattle.std.specs.Map.{values_of}
use Rattle.defs_match.specs.Conflict.{conflict}
use Rattle.defs_match.specs.declared.instance.Instance.{Instance}
use Rattle.rete_beta.specs.Joins.{Asked, node_at}
use Rattle.rete_net.specs.declared.chain.Chain.{Chain}
use Rattle.rete_net.specs.declared.loaded.Loaded.{Loaded}
use Rattle.rete_net.specs.Chains.{AllServed, AreApart, AreNumbered, nodes_of, rule_of}
use Rattle.rete_net.specs.Ends.{AreEnds}
use Rattle.rete_net.specs.Requests.{HasRoot, key_in, requests_of, times}

-- A node has as many requests as the chains ask for it, and the root one.
pub record IsWhole (chains : List Chain) (nodes : ℕ → Option Asked) : Type 0 where
  pub root : HasRoot nodes
  pub requests : (k : ℕ) → requests_of (nodes k) ≡ times k (0 ∷ nodes_of chains)
  pub served : AllServed (key_in nodes) chains
  pub apart : AreApart (map rule_of chains)

pub record IsLoaded (l : Loaded) : Type 0 where
  pub works : l.joins.failed ≡ false
  pub numbered : AreNumbered l.chains.entries
  pub whole : IsWhole (values_of l.chains.entries) (node_at l.joins)
  pub ends : AreEnds (values_of l.chains.entries) l.ends

-- the conflict set of the rules and elements
abbrev pub conflict_in : Loaded → List Instance
conflict_in l = conflict (map rule_of (values_of l.chains.entries)) l.joins.elements
