-- Operator support and instance support (Soar manual, chapter 2, persistence; the static rule is this engine's).
use Rattle.std.specs.Prelude.{ℕ, zero, suc, Bool, true, false, ◌&&◌, ◌==◌, not, List, [], ◌∷◌, Option, Some, None, if◌then◌else◌, ◌||◌}
use Rattle.std.specs.List.{list_any}
use Rattle.soar_sym.specs.Equality.{symbol_eq}
use Rattle.soar_sym.specs.declared.symbol.Sym.{Sym}
use Rattle.soar_rule.specs.declared.cond.Atom.{Atom}
use Rattle.soar_rule.specs.declared.cond.Atom.TheVariants.{Const, Var}
use Rattle.soar_rule.specs.declared.production.Support.{Support}
use Rattle.soar_rule.specs.declared.production.Support.TheVariants as support
use Rattle.defs_match.specs.Element.{Element}
use Rattle.soar_rule.specs.declared.cond.Test.{Test}
use Rattle.soar_rule.specs.declared.cond.Test.TheVariants.{Plain}
use Rattle.soar_rule.specs.declared.cond.Field.{Field}
use Rattle.soar_rule.specs.declared.cond.Pattern.{Pattern}
use Rattle.soar_rule.specs.Conditions.{positive, negated, conjunctive, Conditions, no_more, condition_and}
use Rattle.soar_rule.specs.Productions.{ValueOf, atom_value, call_value, ActionOf, makes, writes, halts, ProductionOf}
use Rattle.defs_match.specs.Testing.{Bindings, symbol_of}
use Rattle.defs_soar.specs.declared.preference.Wish.{Wish}
use Rattle.defs_soar.specs.declared.preference.Preference.{Preference}
use Rattle.defs_soar.specs.declared.goal.Goal.{Goal}
use Rattle.defs_soar.specs.Architecture.{operator_word}
use Rattle.defs_soar.specs.Goals.{goal_ids, is_goal, is_operator_slot}
use Rattle.defs_soar.specs.Preferences.{as_row}

-- ---- the match goal

-- the depth of the deepest goal that is the identifier of one of these elements, 0 without one
abbrev pub depth_from : ℕ → List Sym → List Element → ℕ
depth_from n [] elements = 0
depth_from n (goal ∷ goals) elements =
    let below = depth_from (suc n) goals elements in
    if below == 0 then (if list_any (λ e. symbol_eq e.id goal) elements then n else 0) else below

abbrev pub match_depth : List Goal → List Element → ℕ
match_depth goals elements = depth_from 1 (goal_ids goals) elements

abbrev pub goal_at_depth : ℕ → List Goal → Option Sym
goal_at_depth depth [] = None
goal_at_depth zero (goal ∷ goals) = None
goal_at_depth (suc zero) (goal ∷ goals) = Some goal.id
goal_at_depth (suc (suc depth)) (goal ∷ goals) = goal_at_depth (suc depth) goals

-- ---- operator kind

-- the operator of a selected operator element of the goal, among these
abbrev pub operator_selected : Sym → List Element → Option Sym
operator_selected goal [] = None
operator_selected goal (e ∷ elements) =
    if symbol_eq e.id goal && (symbol_eq e.attr operator_word && not e.accept) then Some e.value else operator_selected goal elements

abbrev pub is_other : Sym → Option Sym → Bool
is_other operator None = false
is_other operator (Some s) = not (symbol_eq s operator)

-- ---- constants that conditions bind to themselves, as identifiers in the rules of justifications

abbrev pub is_plain_of : Sym → Test → Bool
is_plain_of s (Plain (Const c)) = symbol_eq c s
is_plain_of s other = false

abbrev pub has_plain : Sym → Field → Bool
has_plain s field = list_any (is_plain_of s) field.tests

abbrev pub has_plain_in : Sym → Pattern → Bool
has_plain_in s p = has_plain s p.id || (has_plain s p.attr || has_plain s p.value)

-- the constant is a plain test of a positive condition outside negations
abbrev pub is_plain_constant : Conditions → Sym → Bool
is_plain_constant no_more s = false
is_plain_constant (condition_and (positive p) conditions) s = has_plain_in s p || is_plain_constant conditions s
is_plain_constant (condition_and (negated p) conditions) s = is_plain_constant conditions s
is_plain_constant (condition_and (conjunctive inside) conditions) s = is_plain_constant conditions s

-- the identifier is bound by the conditions to something else than the operator
abbrev pub is_bound_to_other : Conditions → Bindings → Sym → Atom → Bool
is_bound_to_other conditions bindings operator (Var variable) = is_other operator (symbol_of variable bindings)
is_bound_to_other conditions bindings operator (Const s) = is_plain_constant conditions s && not (symbol_eq s operator)

abbrev pub atom_value_of : Bindings → Atom → Option Sym
atom_value_of bindings (Const s) = Some s
atom_value_of bindings (Var variable) = symbol_of variable bindings

abbrev pub is_operator_symbol : Option Sym → Bool
is_operator_symbol None = false
is_operator_symbol (Some s) = symbol_eq s operator_word

-- a call counts as another attribute than `operator`
abbrev pub is_operator_attribute : Bindings → ValueOf → Bool
is_operator_attribute bindings (atom_value a) = is_operator_symbol (atom_value_of bindings a)
is_operator_attribute bindings (call_value f arguments) = false

abbrev pub is_goal_atom : List Goal → Bindings → Atom → Bool
is_goal_atom goals bindings a = elim (atom_value_of bindings a) [ Some s ↦ is_goal goals s | None ↦ false ]

-- a make that is no preference for an operator of a goal, on something else than the operator
abbrev pub changes_other : List Goal → Conditions → Bindings → Sym → ActionOf → Bool
changes_other goals conditions bindings operator (makes id attr value preference) =
    is_bound_to_other conditions bindings operator id && not (is_operator_attribute bindings attr && is_goal_atom goals bindings id)
changes_other goals conditions bindings operator (writes written) = false
changes_other goals conditions bindings operator halts = false

abbrev pub applies_operator : List Goal → ProductionOf → Bindings → Option Sym → Bool
applies_operator goals production bindings None = false
applies_operator goals production bindings (Some operator) = list_any (changes_other goals production.conditions bindings operator) production.actions

abbrev pub selected_at : List Element → Option Sym → Option Sym
selected_at elements None = None
selected_at elements (Some goal) = operator_selected goal elements

-- a firing that applies the selected operator of its match goal
abbrev pub applies : List Goal → List Element → Bindings → ProductionOf → Bool
applies goals elements bindings production = applies_operator goals production bindings (selected_at elements (goal_at_depth (match_depth goals elements) goals))

-- a flag decides, and without one whether an operator is applied
abbrev pub kind_by : Support → Bool → Bool
kind_by support.Operator applying = true
kind_by support.Instance applying = false
kind_by support.Unset applying = applying

-- the firing is of operator kind; the elements are those of its instance
abbrev pub operator_kind : List Goal → List Element → Bindings → ProductionOf → Bool
operator_kind goals elements bindings production = kind_by production.support (applies goals elements bindings production)

-- preferences for operators of goals always have instance support
abbrev pub has_operator_support : List Goal → Bool → Wish → Bool
has_operator_support goals operator_kind_of w = operator_kind_of && not (is_operator_slot goals w.id w.attr)

-- a wish of a firing as its row
abbrev pub row_of : List Goal → ℕ → Bool → Wish → Preference
row_of goals firing operator_kind_of w = as_row firing (has_operator_support goals operator_kind_of w) w
