-- What serving a join comes to.
use Rattle.std.specs.Prelude.{◌≡◌, false, ℕ, List, [], Option}
use Rattle.defs_match.specs.Laws.{IsIn, ElementsDiffer, followed_by}
use Rattle.soar_rule.specs.Conditions.{positive, Conditions, no_more, condition_and}
use Rattle.defs_match.specs.Rows.{Row, by_element, rows, rows_from}
use Rattle.soar_rule.specs.declared.cond.Pattern.{Pattern}
use Rattle.soar_wm.specs.declared.element.Element.{Element}
use Rattle.rete_alpha.specs.Taking.{takes}
use Rattle.join_parts.specs.Known.{constants_of}
use Rattle.node_memory.specs.Changes.{join, OneEach, RowsChange, ElementsChange}
use Rattle.node_memory.specs.Memories.{Found}
use Rattle.join_parts.specs.Joins.{GoesFrom, ComesTo}
use Rattle.node_memory.specs.Held.{listed, Holds, SameElements}

abbrev pub JoinServes : Type 0
JoinServes = (p : Pattern) (rows0 rows1 rows_come come_list : List Row) (rows_gone keys gone_list : List (List ℕ)) (w0 w1 index : List Element) (come goes : Option Element) (found : Found)
    → RowsChange rows0 rows1 rows_come rows_gone → ElementsChange w0 w1 (listed come) (listed goes) → Holds found rows1 → SameElements index w1
    → ((x : Row) → IsIn x (join p w0 rows0) → IsIn x.tags keys)
    → ComesTo p index rows_come come found come_list → GoesFrom p found keys rows_gone goes gone_list
    → RowsChange (join p w0 rows0) (join p w1 rows1) come_list gone_list

-- An element that the constants of a pattern leave out makes no row.
abbrev pub ConstantsLeaveOut : Type 0
ConstantsLeaveOut = (p : Pattern) (r : Row) (e : Element) → takes (constants_of p) e ≡ false → by_element p r e ≡ []

-- Where neither the parent's rows change nor an element that the pattern's constants take comes or goes, the rows of a join do not change.
abbrev pub JoinRests : Type 0
JoinRests = (p : Pattern) (rows0 rows1 : List Row) (w0 w1 : List Element) (come goes : Option Element) → RowsChange rows0 rows1 [] [] → ElementsChange w0 w1 (listed come) (listed goes)
    → ((e : Element) → IsIn e (listed come) → takes (constants_of p) e ≡ false) → ((e : Element) → IsIn e (listed goes) → takes (constants_of p) e ≡ false)
    → RowsChange (join p w0 rows0) (join p w1 rows1) [] []

-- The rows of a list with one positive condition more are the join of the rows of the list.
abbrev pub PrefixJoins : Type 0
PrefixJoins = (cs : Conditions) (p : Pattern) (w : List Element) (base : List Row) → rows_from (followed_by cs (condition_and (positive p) no_more)) w base ≡ join p w (rows_from cs w base)

-- The rows of a list of conditions have different tags.
abbrev pub RowsAreOneEach : Type 0
RowsAreOneEach = (cs : Conditions) (w : List Element) → ElementsDiffer w → OneEach (rows cs w)
