-- What a negation has served.
use Rattle.std.specs.Prelude.{ℕ, List}
use Rattle.defs_match.specs.Rows.{Row}
use Rattle.node_memory.specs.Changes.{OneEach, RowsChange}
use Rattle.node_memory.specs.Memories.{Found}
use Rattle.negation_parts.specs.Negations.{AllLong, kept}
use Rattle.node_memory.specs.Held.{Holds}

-- A negation has served the changes of its parent and of its inside, whatever rows these had before and have after it.
abbrev pub ServesNegation : ℕ → Found → List Row → List (List ℕ) → Found → List Row → List (List ℕ) → Found → Found → List Row → List (List ℕ) → Type 0
ServesNegation n parent rows_come rows_gone inner inner_come inner_gone old new come_list gone_list =
    (rows0 rows1 inner0 inner1 : List Row) → Holds parent rows1 → RowsChange rows0 rows1 rows_come rows_gone → Holds inner inner1 → RowsChange inner0 inner1 inner_come inner_gone
    → AllLong n rows0 → AllLong n rows1 → OneEach rows1 → Holds old (kept inner0 rows0)
    → Holds new (kept inner1 rows1) × RowsChange (kept inner0 rows0) (kept inner1 rows1) come_list gone_list
