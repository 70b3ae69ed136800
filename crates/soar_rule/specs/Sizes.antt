-- How many conditions a production has, and how deep its negations and calls are (the limits are this engine's).
use Rattle.std.specs.Prelude.{ℕ, suc, ◌+◌, Bool, ◌||◌, nat_lt, max, List, [], ◌∷◌, Option, Some, None}
use Rattle.std.specs.List.{list_any}
use Rattle.soar_rule.specs.Conditions.{Condition, positive, negated, conjunctive, Conditions, no_more, condition_and}
use Rattle.soar_rule.specs.Productions.{ValueOf, atom_value, call_value, ValuesOf, no_values, value_and, ActionOf, makes, writes, halts, ProductionOf}
use Rattle.soar_rule.specs.Variables.{referent_value}

-- each negation and each condition inside one counts
abbrev mutual
  pub size_of : Condition → ℕ
  size_of (positive p) = 1
  size_of (negated p) = 1
  size_of (conjunctive inside) = suc (size_of_all inside)

  pub size_of_all : Conditions → ℕ
  size_of_all no_more = 0
  size_of_all (condition_and c cs) = size_of c + size_of_all cs

abbrev mutual
  pub depth_of : Condition → ℕ
  depth_of (positive p) = 0
  depth_of (negated p) = 1
  depth_of (conjunctive inside) = suc (depth_of_all inside)

  pub depth_of_all : Conditions → ℕ
  depth_of_all no_more = 0
  depth_of_all (condition_and c cs) = max (depth_of c) (depth_of_all cs)

abbrev mutual
  pub calls_in : ValueOf → ℕ
  calls_in (atom_value a) = 0
  calls_in (call_value f values) = suc (calls_in_all values)

  pub calls_in_all : ValuesOf → ℕ
  calls_in_all no_values = 0
  calls_in_all (value_and v values) = max (calls_in v) (calls_in_all values)

abbrev pub deepest_of : List ValueOf → ℕ
deepest_of [] = 0
deepest_of (v ∷ values) = max (calls_in v) (deepest_of values)

abbrev pub calls_of_referent : Option ValueOf → ℕ
calls_of_referent None = 0
calls_of_referent (Some v) = calls_in v

abbrev pub calls_of : ActionOf → ℕ
calls_of (makes id attr value preference) = max (calls_in attr) (max (calls_in value) (calls_of_referent (referent_value preference)))
calls_of (writes values) = deepest_of values
calls_of halts = 0

-- negations and calls at most 8 deep
abbrev pub is_too_deep : ProductionOf → Bool
is_too_deep p = nat_lt 8 (depth_of_all p.conditions) || list_any (λ a. nat_lt 8 (calls_of a)) p.actions
