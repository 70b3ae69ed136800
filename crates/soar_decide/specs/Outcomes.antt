-- What a goal comes to in a decision, one goal by itself.
use Rattle.std.specs.Prelude.{Bool, List, Option, Some, None, if◌then◌else◌}
use Rattle.soar_sym.specs.declared.symbol.Sym.{Sym}
use Rattle.defs_soar.specs.declared.goal.Goal.{Goal}
use Rattle.defs_soar.specs.declared.goal.Impasse.{Impasse}
use Rattle.defs_soar.specs.declared.goal.Item.{Item}
use Rattle.defs_soar.specs.declared.goal.Selection.{Selection}
use Rattle.defs_soar.specs.declared.preference.Preference.{Preference}
use Rattle.defs_soar.specs.Architecture.{operator_word}
use Rattle.defs_soar.specs.Preferences.{slot_of}
use Rattle.defs_soar.specs.Uses.{marked_element, maker_of}
use Rattle.defs_soar.specs.Verdicts.{marked_tag, items_for, Verdict, are_left, is_impasse, uses_word, drawn_from}
use Rattle.defs_soar.specs.Walk.{View, is_among_left, verdict_at}
use Rattle.soar_decide.specs.declared.outcome.Outcome.{Outcome as OutcomeKept}
use Rattle.soar_decide.specs.declared.outcome.Outcome.TheVariants as outcome
use Rattle.soar_decide.specs.declared.view.View.{View as ViewKept}

-- its selected operator stays, another is selected (with whether that took a word), or there is an impasse
pub data Outcome : Type 0 where
  stays : Outcome
  selects : Option Selection → Bool → Outcome
  meets : Impasse → List Item → Outcome

-- the rows of the goal's operator slot
abbrev pub operator_rows : List Preference → Sym → List Preference
operator_rows rows goal = slot_of rows goal operator_word

-- the operator, with the tag of its marked element and the maker of that
abbrev pub selection_at : View → Sym → Sym → Selection
selection_at v goal operator =
    let tag = marked_tag v.elements goal operator in record { operator = operator; tag = tag; maker = maker_of v.rows (marked_element goal operator tag) }

abbrev pub selected_at : View → Sym → Option Sym → Option Selection
selected_at v goal None = None
selected_at v goal (Some operator) = Some (selection_at v goal operator)

abbrev pub outcome_of : View → Goal → Verdict → Outcome
outcome_of v goal (are_left left) =
    if is_among_left left goal.selected then stays else selects (selected_at v goal.id (drawn_from v.mode v.random left)) (uses_word v.mode left)
outcome_of v goal (is_impasse why scored) = meets why (items_for v.elements goal.id scored)

-- what the walk of a decision finds at the goal
abbrev pub outcome_at : View → Goal → Outcome
outcome_at v goal = outcome_of v goal (verdict_at v goal.id)

-- ---- the code's values

abbrev pub view_seen : ViewKept → View
view_seen v = record { words = v.table.now; rows = v.prefs.now.rows; elements = v.memory.now.elements; mode = v.mode; random = v.random.now }

abbrev pub outcome_seen : OutcomeKept → Outcome
outcome_seen outcome.Stays = stays
outcome_seen (outcome.Selects selection takes) = selects (Some selection) takes
outcome_seen (outcome.Impasse why items) = meets why items
