-- What serving a negation comes to.
use Rattle.std.specs.Prelude.{◌↔◌, ℕ, List}
use Rattle.defs_match.specs.Laws.{IsIn, ElementsDiffer, IsNegation, followed_by, inside}
use Rattle.soar_rule.specs.Conditions.{Condition, Conditions, no_more, condition_and}
use Rattle.negation_parts.specs.Negations.{AllLong, kept, let_through, negation_gone}
use Rattle.defs_match.specs.Rows.{Row, rows}
use Rattle.soar_wm.specs.declared.element.Element.{Element}
use Rattle.node_memory.specs.Changes.{RowsChange}
use Rattle.node_memory.specs.Memories.{Found}
use Rattle.node_memory.specs.Held.{Holds}

-- Where no row of its inside begins with a row, a negation keeps the row: its change, from those of its parent and of its inside.
abbrev pub NegationServes : Type 0
NegationServes = (found : Found) (n : ℕ) (rows0 rows1 rows_come inner0 inner1 inner_come : List Row) (rows_gone inner_gone : List (List ℕ))
    → Holds found rows1 → AllLong n rows0 → AllLong n rows1 → RowsChange rows0 rows1 rows_come rows_gone → RowsChange inner0 inner1 inner_come inner_gone
    → RowsChange (kept inner0 rows0) (kept inner1 rows1) (let_through found n rows_come inner1 inner_gone) (negation_gone n rows_gone inner_come)

-- What a negation keeps are the rows of the conditions with it.
abbrev pub NegationIsKept : Type 0
NegationIsKept = (cs : Conditions) (c : Condition) (w : List Element) → ElementsDiffer w → IsNegation c
    → (x : Row) → IsIn x (kept (rows (followed_by cs (inside c)) w) (rows cs w)) ↔ IsIn x (rows (followed_by cs (condition_and c no_more)) w)
