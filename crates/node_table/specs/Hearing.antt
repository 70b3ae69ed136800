-- What a node hears of, and what it may leave out.
use Rattle.std.specs.Prelude.{◌≡◌, ◌||◌, ℕ, Bool, true, false, List, [], ◌∷◌, Option, Some}
use Rattle.defs_match.specs.Laws.{IsIn}
use Rattle.soar_wm.specs.declared.element.Element.{Element}
use Rattle.rete_alpha.specs.Alphas.{AlphaOf, Asked, asked_at}
use Rattle.rete_alpha.specs.Taking.{takes}
use Rattle.join_parts.specs.Known.{constants_of}
use Rattle.node_memory.specs.Held.{Holds}
use Rattle.node_table.specs.declared.node.Step.{Step}
use Rattle.node_table.specs.declared.node.Step.TheVariants.{Join, Negation}
use Rattle.node_table.specs.declared.node.NodeKey.{NodeKey}
use Rattle.node_table.specs.declared.node.Hears.{Hears}
use Rattle.node_table.specs.declared.node.Node.{Node}
use Rattle.node_table.specs.Serving.{found}

abbrev pub is_nothing : {A : Type 0} → List A → Bool
is_nothing [] = true
is_nothing (_ ∷ _) = false

abbrev pub hears_some : Hears → Bool
hears_some h = h.rows || h.elements

-- a node, if it is live, has no rows
abbrev pub HasNoRows : (ℕ → Option Node) → ℕ → Type 0
HasNoRows nodes m = (upper : Node) → nodes m ≡ Some upper → Holds (found upper.memory) []

-- a join whose constants take none of the elements
abbrev pub IsBarren : Step → List Element → Type 0
IsBarren (Join p) w = (e : Element) → IsIn e w → takes (constants_of p) e ≡ false
IsBarren (Negation m) w = ⊥

-- By whether it hears of rows and of elements: without elements its parent has no rows, and without rows no element is one that it takes.
abbrev pub MayHear : (ℕ → Option Node) → NodeKey → List Element → Bool → Bool → Type 0
MayHear nodes key w true true = Unit {0}
MayHear nodes key w true false = HasNoRows nodes key.parent
MayHear nodes key w false true = IsBarren key.step w
MayHear nodes key w false false = ⊥

-- Each node hears of all that may change its rows.
abbrev pub AllHear : (ℕ → Option Node) → List Element → Type 0
AllHear nodes w = (n : ℕ) (node : Node) (key : NodeKey) → nodes n ≡ Some node → node.key ≡ Some key → MayHear nodes key w node.hears.rows node.hears.elements

-- it is enough for the node of a number
abbrev pub HearsEnough : (ℕ → Option Node) → ℕ → List Element → Hears → Type 0
HearsEnough nodes n w heard = (node : Node) (key : NodeKey) → nodes n ≡ Some node → node.key ≡ Some key → hears_some node.hears ≡ true → MayHear nodes key w heard.rows heard.elements

abbrev pub HearsAfter : (ℕ → Option Node) → (ℕ → Option Node) → ℕ → List Element → Type 0
HearsAfter old new n w = (now : Node) → new n ≡ Some now → HearsEnough old n w now.hears

-- the number is that of the pattern of a step's constants
abbrev pub IsAskedFor : AlphaOf → Step → ℕ → Type 0
IsAskedFor alpha (Join p) n = (r : Asked) × (asked_at alpha n ≡ Some r) × (r.pattern ≡ constants_of p)
IsAskedFor alpha (Negation m) n = Unit {0}

abbrev pub AllAsk : (ℕ → Option Node) → AlphaOf → Type 0
AllAsk nodes alpha = (n : ℕ) (node : Node) (key : NodeKey) → nodes n ≡ Some node → node.key ≡ Some key → IsAskedFor alpha key.step node.alpha
