-- What is told of the rows of nodes.
use Rattle.std.specs.Prelude.{◌≡◌, ◌↔◌, ◌++◌, ℕ, List, Option, Some, None, IsSome}
use Rattle.soar_wm.specs.declared.element.Element.{Element}
use Rattle.defs_match.specs.Conflict.{instance_of}
use Rattle.defs_match.specs.Laws.{IsIn, NoneHas}
use Rattle.defs_match.specs.Rows.{Row, rows}
use Rattle.defs_match.specs.declared.instance.Instance.{Instance}
use Rattle.node_memory.specs.Changes.{tags_of}
use Rattle.node_table.specs.declared.node.Node.{Node}
use Rattle.node_table.specs.Nodes.{key_at as table_key}
use Rattle.rete_beta.specs.Joins.{JoinsOf, Told, nothing_told, key_at, told_at, IsLive}
use Rattle.rete_beta.specs.Ways.{Way, IsWay, conditions_of}

-- the tags of the rows that a node told of
abbrev pub tags_told : Told → List (List ℕ)
tags_told t = tags_of t.come ++ t.gone

-- but for the rows of the tags that are told, the two have the same
abbrev pub AreTold : (List ℕ → Type 0) → List Row → List Row → Type 0
AreTold told before after = (x : Row) → (told x.tags → ⊥) → IsIn x before ↔ IsIn x after

-- A change is told by the nodes that it reached, and by what each of them tells: of every live node the rows are told.
abbrev pub IsTold : JoinsOf → JoinsOf → List ℕ → Type 0
IsTold old new served = (n : ℕ) (way : Way) → IsLive old n → IsWay (key_at old) way n
    → AreTold (λ tags. IsIn n served × IsIn tags (tags_told (told_at new n))) (rows (conditions_of way) old.elements) (rows (conditions_of way) new.elements)

-- the row of these tags as an instance of rule 0, where there is one
abbrev pub IsRowOf : List Row → List ℕ → Option Instance → Type 0
IsRowOf rs tags None = NoneHas tags rs
IsRowOf rs tags (Some i) = (x : Row) × IsIn x rs × (x.tags ≡ tags) × (i ≡ instance_of 0 x)

-- ---- of a table

abbrev pub told_of : Node → Told
told_of node = record { come = node.come.items; gone = node.gone.items }

abbrev pub told_in : Option Node → Told
told_in None = nothing_told
told_in (Some node) = told_of node

abbrev pub IsToldIn : (ℕ → Option Node) → (ℕ → Option Node) → List Element → List Element → List ℕ → Type 0
IsToldIn old new w0 w1 served = (n : ℕ) (way : Way) → IsSome (old n) → IsWay (table_key old) way n
    → AreTold (λ tags. IsIn n served × IsIn tags (tags_told (told_in (new n)))) (rows (conditions_of way) w0) (rows (conditions_of way) w1)
