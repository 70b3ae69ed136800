-- Equality of the code's values and actions, each by what it is seen as.
use Rattle.std.specs.Prelude.{ℕ, Bool, true, false, Option, Some, None}
use Rattle.soar_rule.specs.declared.action.Action.{Action}
use Rattle.soar_rule.specs.declared.action.Value.{Value}
use Rattle.soar_rule.specs.Equality.{action_eq, value_eq}
use Rattle.soar_rule.specs.Productions.{ValueOf, PreferenceOf, accepts, rejects, requires_it, prohibits, is_best, is_worst, is_indifferent, is_better_than, is_worse_than, is_indifferent_to, action_seen, value_seen}

abbrev pub seen_value_eq : Value → Value → Bool
seen_value_eq a b = value_eq (value_seen a) (value_seen b)

abbrev pub seen_action_eq : Action → Action → Bool
seen_action_eq a b = action_eq (action_seen a) (action_seen b)

-- the place of a kind of preference in the row of them
abbrev pub preference_place : PreferenceOf → ℕ
preference_place accepts = 0
preference_place rejects = 1
preference_place requires_it = 2
preference_place prohibits = 3
preference_place is_best = 4
preference_place is_worst = 5
preference_place is_indifferent = 6
preference_place (is_better_than v) = 7
preference_place (is_worse_than v) = 8
preference_place (is_indifferent_to v) = 9

abbrev pub referent_eq : Option ValueOf → Option ValueOf → Bool
referent_eq None None = true
referent_eq (Some u) (Some v) = value_eq u v
referent_eq None (Some v) = false
referent_eq (Some u) None = false
