use Rattle.std.proofs.Common.{◌≡◌, subst, sym, true}
use Rattle.soar_rule.specs.AsItStands.{can_be_matched}
use Rattle.soar_rule.specs.Productions.{production_seen}
use Rattle.defs_match.specs.declared.rule.Rule.{Rule}
use Rattle.matching_tests.proofs.network.rules.rule_of.Goals as goal

pub invariant_of-result : goal.invariant_of-result
invariant_of-result c =
    record { matchable = subst (λ (rule : Rule). can_be_matched (production_seen rule.production) ≡ true) (sym c.in_ok-new.ensures) (c.checked_is_in_order.ensures.bound _ _ c.in_ok-production.ensures) }
