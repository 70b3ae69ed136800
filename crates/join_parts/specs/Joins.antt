-- What a join has served.
use Rattle.std.specs.Prelude.{◌≡◌, ◌↔◌, ◌⊎◌, ℕ, List, map, Option, Some, None}
use Rattle.node_memory.specs.Changes.{below, join, OneEach, RowsChange, ElementsChange}
use Rattle.defs_match.specs.Laws.{IsIn}
use Rattle.defs_match.specs.Rows.{Row, by_element}
use Rattle.soar_rule.specs.declared.cond.Pattern.{Pattern}
use Rattle.soar_wm.specs.declared.element.Element.{Element}
use Rattle.soar_sym.specs.declared.symbol.Sym.{Sym}
use Rattle.node_memory.specs.Memories.{Found, has, symbol_in}
use Rattle.node_memory.specs.Held.{listed, Holds, SameElements}
use Rattle.join_parts.specs.Known.{first_variable}

-- it is what an element makes of a row that is found
abbrev pub IsOne : Pattern → Element → Found → Row → Type 0
IsOne p e found x = (r : Row) × has found r × IsIn x (by_element p r e)

-- the same, of a row in which the variable of the pattern's identifier stands for this
abbrev pub IsOneAt : Pattern → Element → Option Sym → Found → Row → Type 0
IsOneAt p e id found x = (r : Row) × has found r × (symbol_in (first_variable p.id.tests) r.bindings ≡ id) × IsIn x (by_element p r e)

abbrev pub IsOfOne : Pattern → Option Element → Found → Row → Type 0
IsOfOne p None found x = ⊥
IsOfOne p (Some e) found x = IsOne p e found x

-- the tags below those that went, and those of the rows that the element made
abbrev pub GoesFrom : Pattern → Found → List (List ℕ) → List (List ℕ) → Option Element → List (List ℕ) → Type 0
GoesFrom p found keys rows_gone gone tags =
    (t : List ℕ) → IsIn t tags ↔ (IsIn t (below keys rows_gone) ⊎ ((x : Row) × IsOfOne p gone found x × (x.tags ≡ t)))

-- the rows that come to a join
abbrev pub ComesTo : Pattern → List Element → List Row → Option Element → Found → List Row → Type 0
ComesTo p index rows_come come found rows = (x : Row) → IsIn x rows ↔ (IsIn x (join p index rows_come) ⊎ IsOfOne p come found x)

-- A join has served the change of its parent and of the elements: whatever rows its parent had before and has after it, and whatever
-- elements there were and are, its map holds the rows after the change where it held those before, and the two lists tell the change.
abbrev pub Serves : Pattern → Found → List Row → List (List ℕ) → List Element → Option Element → Option Element → Found → Found → List Row → List (List ℕ) → Type 0
Serves p parent rows_come rows_gone index come goes old new come_list gone_list =
    (rows0 rows1 : List Row) (w0 w1 : List Element) → RowsChange rows0 rows1 rows_come rows_gone → ElementsChange w0 w1 (listed come) (listed goes) → Holds parent rows1 → SameElements index w1
    → Holds old (join p w0 rows0) → OneEach (join p w1 rows1)
    → Holds new (join p w1 rows1) × RowsChange (join p w0 rows0) (join p w1 rows1) come_list gone_list
