-- Requests for nodes, and what asking for nodes and taking requests back makes of the others.
use Rattle.std.specs.Prelude.{◌≡◌, ◌<◌, ◌≤◌, ◌+◌, ◌⊎◌, ◌++◌, ℕ, suc, ◌==◌, List, [], ◌∷◌, Option, Some, None, IsSome, option_and_then, if◌then◌else◌}
use Rattle.defs_match.specs.Laws.{IsIn}
use Rattle.node_table.specs.declared.node.NodeKey.{NodeKey}
use Rattle.node_table.specs.Nodes.{uppers}
use Rattle.rete_beta.specs.Joins.{Asked, key_of}

abbrev pub key_in : (ℕ → Option Asked) → ℕ → Option NodeKey
key_in nodes n = option_and_then key_of (nodes n)

abbrev pub requests_of : Option Asked → ℕ
requests_of None = 0
requests_of (Some a) = a.requests

-- how often a number stands in a list
abbrev pub times : ℕ → List ℕ → ℕ
times k [] = 0
times k (x ∷ xs) = if x == k then suc (times k xs) else times k xs

-- node 0 is live, and has no key
pub record HasRoot (nodes : ℕ → Option Asked) : Type 0 where
  pub live : IsSome (nodes 0)
  pub bare : key_in nodes 0 ≡ None

-- ---- asking

-- one request more for each of these; who was live before stays the same node
pub record Grows (old new : ℕ → Option Asked) (more : List ℕ) : Type 0 where
  pub stays : (k : ℕ) (a : Asked) → old k ≡ Some a → (b : Asked) × (new k ≡ Some b) × (b.key ≡ a.key)
  pub requests : (k : ℕ) → requests_of (new k) ≡ requests_of (old k) + times k more

-- Behind those that were asked for before, more nodes are; P holds of these and of the last of them.
pub record AsksFor (P : (ℕ → Option NodeKey) → List ℕ → ℕ → Type 0) (old new : ℕ → Option Asked) (before after : List ℕ) (n : ℕ) : Type 0 where
  pub more : List ℕ
  pub longer : after ≡ before ++ more
  pub grows : Grows old new more
  pub live : IsSome (new n)
  pub made : P (key_in new) more n

-- ---- taking back

-- a node has a key, and P holds of all nodes that it reads
abbrev pub Reads : (ℕ → Option NodeKey) → (ℕ → Type 0) → ℕ → Type 0
Reads keys P n = (key : NodeKey) × (keys n ≡ Some key) × ((u : ℕ) → IsIn u (uppers key) → P u)

-- each node reads those before it, and those of P
abbrev pub AreGrounded : (ℕ → Option NodeKey) → (ℕ → Type 0) → List ℕ → Type 0
AreGrounded keys P [] = Unit {0}
AreGrounded keys P (n ∷ ns) = Reads keys P n × AreGrounded keys (λ u. (n ≡ u) ⊎ P u) ns

-- Who is asked for elsewhere too reads the root or nodes that are asked for elsewhere too.
pub record CanDropAll (nodes : ℕ → Option Asked) (l : List ℕ) : Type 0 where
  pub enough : (k : ℕ) → times k l ≤ requests_of (nodes k)
  pub grounded : AreGrounded (key_in nodes) (λ u. u ≡ 0) l
  pub bare : key_in nodes 0 ≡ None
  pub elsewhere : (k : ℕ) (key : NodeKey) (u : ℕ) → key_in nodes k ≡ Some key → times k l < requests_of (nodes k) → IsIn u (uppers key) → (u ≡ 0) ⊎ (times u l < requests_of (nodes u))

-- Of all of these the rest has its requests still. Who is asked for elsewhere too stays the same node.
pub record DropsTo (old new : ℕ → Option Asked) (all rest : List ℕ) : Type 0 where
  pub requests : (k : ℕ) → requests_of (new k) + times k all ≡ requests_of (old k) + times k rest
  pub keys : (k : ℕ) → times k all < requests_of (old k) → key_in new k ≡ key_in old k

-- one request less for each of these
abbrev pub DropsAll : (ℕ → Option Asked) → (ℕ → Option Asked) → List ℕ → Type 0
DropsAll old new l = DropsTo old new l []
