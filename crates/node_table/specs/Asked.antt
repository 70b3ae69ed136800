-- What the nodes of the table ask of the pattern memories.
use Rattle.std.specs.Prelude.{◌≡◌, ◌==◌, ◌+◌, ℕ, List, [], ◌∷◌, Option, Some, None, option_and_then, slice_index_or, if◌then◌else◌}
use Rattle.soar_rule.specs.declared.cond.Pattern.{Pattern}
use Rattle.rete_alpha.specs.Alphas.{AlphaOf, Asked, asked_at}
use Rattle.join_parts.specs.Known.{constants_of}
use Rattle.node_table.specs.declared.node.Step.{Step}
use Rattle.node_table.specs.declared.node.Step.TheVariants.{Join, Negation}
use Rattle.node_table.specs.declared.node.NodeKey.{NodeKey}
use Rattle.node_table.specs.declared.node.Node.{Node}

-- a number of a pattern memory, and the pattern of the node that asks for it
abbrev pub Asker : Type 0
Asker = ℕ × Pattern

-- a join asks for its number
abbrev pub asker_of : ℕ → Step → Option Asker
asker_of number (Join p) = Some (number, p)
asker_of number (Negation m) = None

abbrev pub asker_by : ℕ → Option NodeKey → Option Asker
asker_by number None = None
asker_by number (Some key) = asker_of number key.step

abbrev pub asker : Node → Option Asker
asker node = asker_by node.alpha node.key

abbrev pub one_for : ℕ → Option Asker → ℕ
one_for a None = 0
one_for a (Some q) = if q.0 == a then 1 else 0

abbrev pub asks : ℕ → Option Node → ℕ
asks a o = one_for a (option_and_then asker o)

-- how many nodes ask for a number
abbrev pub asking : ℕ → List (Option Node) → ℕ
asking a [] = 0
asking a (o ∷ os) = asks a o + asking a os

abbrev pub requests_at : Option Asked → ℕ
requests_at None = 0
requests_at (Some q) = q.requests

-- As many requests stand for a number as nodes ask for it, and it is that of the constants of each of them.
pub record IsAsked (slots : List (Option Node)) (alpha : AlphaOf) : Type 0 where
  pub counted : (a : ℕ) → asking a slots ≡ requests_at (asked_at alpha a)
  pub patterned : (n : ℕ) (q : Asker) → option_and_then asker (slice_index_or slots n None) ≡ Some q → (r : Asked) × (asked_at alpha q.0 ≡ Some r) × (r.pattern ≡ constants_of q.1)
