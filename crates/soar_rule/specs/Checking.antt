-- What is wrong with a production, and else its conditions in match order (the faults and their order are this engine's).
use Rattle.std.specs.Prelude.{ℕ, suc, Bool, true, false, ◌&&◌, ◌||◌, nat_lt, min, not, List, [], ◌∷◌, ◌++◌, length, flat_map, Option, Some, None, Result, Ok, Err, if◌then◌else◌, option_map}
use Rattle.std.specs.List.{list_any}
use Rattle.soar_sym.specs.Equality.{symbol_eq}
use Rattle.soar_sym.specs.declared.symbol.Sym.TheVariants.{Word}
use Rattle.soar_rule.specs.declared.cond.Atom.TheVariants.{Const, Var}
use Rattle.soar_rule.specs.Conditions.{positive, negated, conjunctive, Conditions, no_more, condition_and, all_of}
use Rattle.soar_rule.specs.Productions.{ValueOf, atom_value, call_value, PreferenceOf, accepts, rejects, ActionOf, makes, writes, halts, ProductionOf}
use Rattle.soar_rule.specs.MatchOrder.{or_else, first_unknown, missing_in, is_linked, Taken, first_lack, taken_in_order}
use Rattle.soar_rule.specs.Repeat.{repeated}
use Rattle.soar_rule.specs.Sizes.{size_of_all, is_too_deep}
use Rattle.soar_rule.specs.Variables.{is_among, variables_of_atom, variables_of_value, variables_of_values, referent_value, of_referent, plain_outside}

pub data Fault : Type 0 where
  no_state : Fault
  unbound : ℕ → Fault  -- a variable
  unconnected : ℕ → Fault  -- the place of a condition, from 1
  too_many : ℕ → Fault
  too_deep : Fault
  bad_preference : Fault

-- a number that is told stands at 4,294,967,295 where it would be greater
abbrev pub told : ℕ → ℕ
told n = min n 4294967295

-- ---- conditions

-- whether a positive condition outside negations is marked `state`
abbrev pub has_state : Conditions → Bool
has_state no_more = false
has_state (condition_and (positive p) cs) = p.state || has_state cs
has_state (condition_and (negated p) cs) = has_state cs
has_state (condition_and (conjunctive inside) cs) = has_state cs

-- what the first positive condition lacks that was left although it is linked
abbrev pub lack_of_linked : Conditions → ℕ → Taken → Option ℕ
lack_of_linked no_more place taken = None
lack_of_linked (condition_and (positive p) cs) place taken =
    or_else (if not (is_among taken.places place) && is_linked taken.bound p then missing_in taken.bound p else None) (lack_of_linked cs (suc place) taken)
lack_of_linked (condition_and (negated p) cs) place taken = lack_of_linked cs (suc place) taken
lack_of_linked (condition_and (conjunctive inside) cs) place taken = lack_of_linked cs (suc place) taken

-- the place, from 1, of the first positive condition that was left; negations count too
abbrev pub place_left : Conditions → ℕ → Taken → Option ℕ
place_left no_more place taken = None
place_left (condition_and (positive p) cs) place taken = if is_among taken.places place then place_left cs (suc place) taken else Some (suc place)
place_left (condition_and (negated p) cs) place taken = place_left cs (suc place) taken
place_left (condition_and (conjunctive inside) cs) place taken = place_left cs (suc place) taken

-- why the order stops before the end
abbrev pub stop_of : Conditions → Taken → Option Fault
stop_of cs taken =
    or_else (option_map unbound (lack_of_linked cs 0 taken))
    (or_else (option_map (λ k. unconnected (told k)) (place_left cs 0 taken)) (option_map unbound (first_lack cs false false (plain_outside cs) 0 taken)))

-- ---- actions

-- a value that is one variable may be new; inside a call none may
abbrev pub called_variables : ValueOf → List ℕ
called_variables (atom_value a) = []
called_variables (call_value f values) = variables_of_values values

abbrev pub lone_variable : ValueOf → List ℕ
lone_variable (atom_value a) = variables_of_atom a
lone_variable (call_value f arguments) = []

-- what an action links: the value and referent of an identifier that is linked
abbrev pub linked_by : List ℕ → ActionOf → List ℕ
linked_by known (makes (Var v) attr value preference) =
    if is_among known v then known ++ (lone_variable value ++ of_referent lone_variable (referent_value preference)) else known
linked_by known (makes (Const s) attr value preference) = known
linked_by known (writes values) = known
linked_by known halts = known

abbrev pub linked_by_all : List ActionOf → List ℕ → List ℕ
linked_by_all [] known = known
linked_by_all (a ∷ actions) known = linked_by_all actions (linked_by known a)

-- step by step, as often as there are actions
abbrev pub linked_variables : List ℕ → List ActionOf → List ℕ
linked_variables bound actions = repeated (length actions) (linked_by_all actions) bound

-- the first variable of an action that has to be bound, or linked where it is the identifier
abbrev pub unbound_in : List ℕ → List ℕ → ActionOf → Option ℕ
unbound_in bound linked (makes id attr value preference) =
    or_else (first_unknown linked (variables_of_atom id))
    (first_unknown bound (variables_of_value attr ++ (called_variables value ++ of_referent called_variables (referent_value preference))))
unbound_in bound linked (writes values) = first_unknown bound (flat_map variables_of_value values)
unbound_in bound linked halts = None

abbrev pub first_unbound : List ℕ → List ℕ → List ActionOf → Option ℕ
first_unbound bound linked [] = None
first_unbound bound linked (a ∷ actions) = or_else (unbound_in bound linked a) (first_unbound bound linked actions)

abbrev pub fault_of_actions : List ℕ → List ActionOf → Option Fault
fault_of_actions bound actions = option_map unbound (first_unbound bound (linked_variables bound actions) actions)

-- ---- sizes

-- at most 1,000 conditions and 2,000 variables
abbrev pub fault_of_number : ℕ → ℕ → Option Fault
fault_of_number conditions variables =
    if nat_lt 1000 conditions then Some (too_many (told conditions)) else if nat_lt 2000 variables then Some (too_many (told variables)) else None

-- ---- preferences

abbrev pub is_ordinary_preference : PreferenceOf → Bool
is_ordinary_preference accepts = true
is_ordinary_preference rejects = true
is_ordinary_preference other = false

-- a constant other than `operator`, which is the eighth of the architecture's words
abbrev pub is_ordinary_attribute : ValueOf → Bool
is_ordinary_attribute (atom_value (Const s)) = not (symbol_eq s (Word 7))
is_ordinary_attribute (atom_value (Var v)) = false
is_ordinary_attribute (call_value f arguments) = false

-- a preference that operators alone have, for an ordinary attribute
abbrev pub is_bad : ActionOf → Bool
is_bad (makes id attr value preference) = is_ordinary_attribute attr && not (is_ordinary_preference preference)
is_bad (writes values) = false
is_bad halts = false

-- ---- the whole

abbrev pub fault_if : Bool → Fault → Option Fault
fault_if true fault = Some fault
fault_if false fault = None

-- the first fault of a production, in the order in which faults are told
abbrev pub fault_of : ProductionOf → Taken → Option Fault
fault_of p taken =
    or_else (fault_if (not (has_state p.conditions)) no_state)
    (or_else (stop_of p.conditions taken)
    (or_else (fault_of_actions taken.bound p.actions)
    (or_else (fault_of_number (size_of_all p.conditions) (length p.vars))
    (or_else (fault_if (is_too_deep p) too_deep) (fault_if (list_any is_bad p.actions) bad_preference)))))

abbrev pub unless_fault : Option Fault → ProductionOf → Result ProductionOf Fault
unless_fault None p = Ok p
unless_fault (Some fault) p = Err fault

-- the production with its conditions in match order, or its first fault
unfoldable pub ordered : ProductionOf → Result ProductionOf Fault
ordered p = let taken = taken_in_order p.conditions in unless_fault (fault_of p taken) (record p { conditions = all_of taken.order })
