-- What stays of preference memory, the inputs and working memory once nothing changes any more.
use Rattle.std.specs.Prelude.{ℕ, suc, ◌+◌, Bool, ◌&&◌, ◌==◌, not, List, [], ◌∷◌, ◌++◌, map, filter, length, is_some}
use Rattle.soar_sym.specs.Equality.{mark_eq}
use Rattle.soar_sym.specs.Words.{Texts}
use Rattle.soar_sym.specs.declared.symbol.Triple.{Triple}
use Rattle.defs_match.specs.Element.{Element}
use Rattle.defs_match.specs.WorkingMemory.{triple_of}
use Rattle.defs_soar.specs.declared.preference.Preference.{Preference}
use Rattle.defs_soar.specs.declared.goal.Goal.{Goal}
use Rattle.defs_soar.specs.Goals.{is_goal}
use Rattle.defs_soar.specs.Held.{held}
use Rattle.defs_soar.specs.Levels.{reaches, level_in, is_level_one}
use Rattle.soar_rule.specs.Repeat.{until_same}
use Rattle.defs_soar.specs.Sorted.{in_order}
use Rattle.defs_soar.specs.Values.{has_triple_among}

-- what may go: rows and inputs
pub record Supports : Type 0 where
  pub rows : List Preference
  pub inputs : List Triple

abbrev pub count_of : Supports → ℕ
count_of s = length s.rows + length s.inputs

-- rows whose identifier nothing reaches go, and inputs that are not of the top level
abbrev pub one_settling : List Goal → Supports → Supports
one_settling goals s =
    let reach = reaches goals (held s.rows goals s.inputs) in
    record {
      rows = filter (λ row. is_some (level_in goals reach row.wish.id)) s.rows;
      inputs = filter (λ t. is_level_one (level_in goals reach t.id)) s.inputs;
    }

-- until nothing goes; each round but the last takes something away
abbrev pub settled : List Goal → Supports → Supports
settled goals s = until_same (λ a b. count_of a == count_of b) (count_of s) (one_settling goals) s

-- the held triples that some goal reaches
abbrev pub kept_triples : List Goal → Supports → List Triple
kept_triples goals s =
    let all = held s.rows goals s.inputs in
    let reach = reaches goals all in filter (λ t. is_some (level_in goals reach t.id)) all

-- ---- tags

-- an element stays where its triple is kept with the same flag
abbrev pub stays : List Goal → List Triple → Element → Bool
stays goals kept e = has_triple_among kept (triple_of e) && mark_eq e.of_state (is_goal goals e.id)

abbrev pub element_of_triple : List Goal → ℕ → Triple → Element
element_of_triple goals tag t = record { tag = tag; id = t.id; attr = t.attr; value = t.value; accept = t.accept; of_state = is_goal goals t.id }

abbrev pub tagged : List Goal → ℕ → List Triple → List Element
tagged goals last [] = []
tagged goals last (t ∷ triples) = element_of_triple goals (suc last) t ∷ tagged goals (suc last) triples

-- the triples that no element of these has
abbrev pub new_triples : List Element → List Triple → List Triple
new_triples elements kept = filter (λ t. not (has_triple_among (map triple_of elements) t)) kept

-- the elements after a step: what is kept keeps its tag, and what is new gets the next tags in order of triple
abbrev pub elements_after : Texts → List Goal → List Triple → ℕ → List Element → List Element
elements_after words goals kept last elements =
    let old = filter (stays goals kept) elements in old ++ tagged goals last (in_order words (new_triples old kept))
