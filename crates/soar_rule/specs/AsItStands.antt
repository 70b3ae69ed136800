-- Whether a production can be matched with its conditions in the order in which they stand (the limits are this engine's).
use Rattle.std.specs.Prelude.{ℕ, Bool, true, false, ◌&&◌, nat_lt, not, List, [], ◌++◌, Option, Some, None}
use Rattle.soar_rule.specs.Conditions.{Condition, positive, negated, conjunctive, Conditions, no_more, condition_and}
use Rattle.soar_rule.specs.Productions.{ProductionOf}
use Rattle.soar_rule.specs.MatchOrder.{missing_in}
use Rattle.soar_rule.specs.Sizes.{depth_of_all}
use Rattle.soar_rule.specs.Variables.{bound_by}

abbrev pub is_nothing : Option ℕ → Bool
is_nothing None = true
is_nothing (Some v) = false

-- each variable of a relation is bound where it stands: before it, or plain in the same field or an earlier one
abbrev mutual
  pub is_bound_where_it_stands : List ℕ → Condition → Bool
  is_bound_where_it_stands bound (positive p) = is_nothing (missing_in bound p)
  is_bound_where_it_stands bound (negated p) = is_nothing (missing_in bound p)
  is_bound_where_it_stands bound (conjunctive inside) = are_bound_where_they_stand bound inside

  pub are_bound_where_they_stand : List ℕ → Conditions → Bool
  are_bound_where_they_stand bound no_more = true
  are_bound_where_they_stand bound (condition_and c cs) = is_bound_where_it_stands bound c && are_bound_where_they_stand (bound ++ bound_by c) cs

-- what can be matched: relations on bound variables, and negations at most 8 deep
abbrev pub can_be_matched : ProductionOf → Bool
can_be_matched p = are_bound_where_they_stand [] p.conditions && not (nat_lt 8 (depth_of_all p.conditions))
