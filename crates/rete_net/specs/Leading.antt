-- The nodes on the way of conditions, in the order in which they are asked for.
use Rattle.std.specs.Prelude.{◌≡◌, ◌++◌, ℕ, List, [], ◌∷◌, Option, Some}
use Rattle.soar_rule.specs.Conditions.{Condition, positive, negated, conjunctive, Conditions, no_more, condition_and}
use Rattle.node_table.specs.declared.node.Step.{Step}
use Rattle.node_table.specs.declared.node.Step.TheVariants.{Join, Negation}
use Rattle.node_table.specs.declared.node.NodeKey.{NodeKey}
use Rattle.rete_beta.specs.Networks.{key_made}

-- the one node of a parent and a step
abbrev pub IsMade : ℕ → Step → (ℕ → Option NodeKey) → List ℕ → ℕ → Type 0
IsMade parent step keys l n = (l ≡ n ∷ []) × (keys n ≡ Some (key_made parent step))

-- From node m these nodes lead to node n, which is that of the condition. Those inside a negation come first.
abbrev mutual
  pub LeadsBy : (ℕ → Option NodeKey) → Condition → ℕ → List ℕ → ℕ → Type 0
  LeadsBy keys (positive p) m l n = IsMade m (Join p) keys l n
  LeadsBy keys (negated p) m l n = (i : ℕ) × (l ≡ i ∷ n ∷ []) × (keys i ≡ Some (key_made m (Join p))) × (keys n ≡ Some (key_made m (Negation i)))
  LeadsBy keys (conjunctive cs) m l n = (i : ℕ) × (inner : List ℕ) × (l ≡ inner ++ n ∷ []) × Leads keys cs m inner i × (keys n ≡ Some (key_made m (Negation i)))

  pub Leads : (ℕ → Option NodeKey) → Conditions → ℕ → List ℕ → ℕ → Type 0
  Leads keys no_more m l n = (l ≡ []) × (n ≡ m)
  Leads keys (condition_and c cs) m l n = (k : ℕ) × (first : List ℕ) × (later : List ℕ) × (l ≡ first ++ later) × LeadsBy keys c m first k × Leads keys cs k later n
