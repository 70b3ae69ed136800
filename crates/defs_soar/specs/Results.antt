-- What a firing made for higher goals (Soar manual, chapter 4, results), with what hangs on it.
--
-- Results are a firing's preferences for identifiers of a level above its match goal's. With a result goes what it leads to:
-- each local or new identifier that is its value or referent, unless it is a goal, with all acceptable rows of that identifier, step by step.
-- Goals are those before the wave. Of rows of one triple the least-numbered firing's counts.
use Rattle.std.specs.Prelude.{ℕ, Bool, false, ◌&&◌, ◌||◌, not, nat_lt, List, [], ◌∷◌, ◌++◌, map, flat_map, filter, length, if◌then◌else◌}
use Rattle.std.specs.Ordering.{is_lt}
use Rattle.soar_sym.specs.Order.{triple_cmp}
use Rattle.soar_sym.specs.Words.{Texts}
use Rattle.soar_sym.specs.declared.symbol.Sym.{Sym}
use Rattle.soar_sym.specs.declared.symbol.Triple.{Triple}
use Rattle.soar_rule.specs.Repeat.{until_same}
use Rattle.defs_soar.specs.declared.preference.PrefKind.TheVariants as kind
use Rattle.defs_soar.specs.declared.preference.Preference.{Preference}
use Rattle.defs_soar.specs.declared.preference.Wish.{Wish}
use Rattle.defs_soar.specs.Dependencies.{has_level, is_new_in, symbols_of_referent}
use Rattle.defs_soar.specs.Goals.{is_goal, plain_triple}
use Rattle.defs_soar.specs.History.{Reach, FiringOf}
use Rattle.defs_soar.specs.Levels.{level_in, same_length}
use Rattle.defs_soar.specs.Preferences.{as_row}
use Rattle.defs_soar.specs.Sorted.{has_symbol}
use Rattle.defs_soar.specs.Uses.{is_above}
use Rattle.defs_soar.specs.Values.{is_identifier, is_kind, same_triple}

-- a wish for an identifier of a higher level than the firing's match goal
abbrev pub is_result : Reach → ℕ → Wish → Bool
is_result before depth w = is_above (level_in before.goals before.reached w.id) depth

-- ---- the closure: what hangs on results

abbrev pub named_by : Wish → List Sym
named_by w = w.value ∷ symbols_of_referent w.referent

-- a local identifier that is no goal
abbrev pub hangs : Reach → FiringOf → Sym → Bool
hangs before f s = is_identifier s && (not (is_goal before.goals s) && (has_level before f.depth s || is_new_in f s))

abbrev pub with_each_symbol : List Sym → List Sym → List Sym
with_each_symbol seen [] = seen
with_each_symbol seen (s ∷ symbols) = with_each_symbol (if has_symbol seen s then seen else seen ++ s ∷ []) symbols

-- the acceptable rows of the identifiers
abbrev pub accepted_for : List Preference → List Sym → List Preference
accepted_for rows ids = filter (λ row. is_kind row.wish.kind kind.Accept && has_symbol ids row.wish.id) rows

abbrev pub hanging_more : Reach → FiringOf → List Preference → List Sym → List Sym
hanging_more before f rows ids = with_each_symbol ids (filter (hangs before f) (flat_map (λ row. named_by row.wish) (accepted_for rows ids)))

-- the identifiers that hang on these wishes, step by step; each round but the last finds a new one, which a row names
abbrev pub hanging_on : Reach → FiringOf → List Preference → List Wish → List Sym
hanging_on before f rows wishes =
    until_same same_length (length rows) (hanging_more before f rows) (with_each_symbol [] (filter (hangs before f) (flat_map named_by wishes)))

abbrev pub row_triple : Preference → Triple
row_triple row = plain_triple row.wish.id row.wish.attr row.wish.value

-- one row more, in order of triple, each triple with its least-numbered maker
abbrev pub with_closure_row : Texts → Preference → List Preference → List Preference
with_closure_row words row [] = row ∷ []
with_closure_row words row (other ∷ rows) =
    if same_triple row other then (if nat_lt row.firing other.firing then row else other) ∷ rows
    else if is_lt (triple_cmp words (row_triple row) (row_triple other)) then row ∷ other ∷ rows
    else other ∷ with_closure_row words row rows

abbrev pub each_triple_once : Texts → List Preference → List Preference
each_triple_once words [] = []
each_triple_once words (row ∷ rows) = with_closure_row words row (each_triple_once words rows)

-- ---- the results

abbrev pub result_row : FiringOf → Wish → Preference
result_row f w = as_row f.number false w

-- the acceptable rows that may hang on a result: those before the wave, and the firing's own
abbrev pub rows_seen : List Preference → FiringOf → List Preference
rows_seen rows f = rows ++ map (result_row f) f.made

-- the rows that hang on the results of a firing
abbrev pub closure_of : Texts → Reach → List Preference → FiringOf → List Preference
closure_of words before rows f =
    let seen = rows_seen rows f in
    each_triple_once words (accepted_for seen (hanging_on before f seen (filter (is_result before f.depth) f.made)))

-- the wishes for higher identifiers as they were made, and then what hangs on them, in order of triple
unfoldable pub results_of : Texts → Reach → List Preference → FiringOf → List Preference
results_of words before rows f = map (result_row f) (filter (is_result before f.depth) f.made) ++ closure_of words before rows f

-- whether a wish of the firing goes over to what is learned: a result, or an acceptable wish for what hangs on one
abbrev pub goes_over : Reach → List Preference → FiringOf → Wish → Bool
goes_over before rows f w =
    let ids = hanging_on before f (rows_seen rows f) (filter (is_result before f.depth) f.made) in
    is_result before f.depth w || (is_kind w.kind kind.Accept && has_symbol ids w.id)
