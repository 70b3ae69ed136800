-- The order is whole: the conditions are the same in another order.
use Rattle.std.proofs.Common.{◌≡◌, ℕ, Bool, List, Ok, sym, subst}
use Rattle.soar_rule.specs.declared.cond.Pattern.{Pattern}
use Rattle.soar_rule.specs.Checking.{ordered}
use Rattle.soar_rule.specs.Conditions.{Condition, positive, negated, conjunctive, Conditions, no_more, all_of}
use Rattle.soar_rule.specs.MatchOrder.{is_ready, readiness}
use Rattle.soar_rule.specs.Productions.{ProductionOf}
use Rattle.soar_rule.specs.Reordering.{ReorderedInside, the_same, within, Reordered, nothing, taking}
use Rattle.rule_laws.proofs.CheckedLaws.{checked}
use Rattle.rule_laws.proofs.EachLaws.{Each, of_condition, of_each, each_taken_out}
use Rattle.rule_laws.proofs.ReadyLaws.{ReadyInside, ready_positive, ready_negated, ready_inside}
use Rattle.rule_laws.proofs.RunLaws.{Run, ended, going}

-- as it is ready, it is the same but for the order inside
abbrev IsKept : Condition → Type 0
IsKept c = (inside : Bool) (outside bound : List ℕ) (d : Condition) → readiness c inside outside bound ≡ is_ready d → ReorderedInside c d

run_is_whole :
    {inside : Bool} {outside bound last : List ℕ} {cs : Conditions} {order : List Condition} → Run inside outside bound cs order last no_more → Each IsKept cs →
    Reordered cs (all_of order)
run_is_whole ended k = nothing
run_is_whole (going {bound = bound} {cs = cs} {rest = rest} {order = order} c d o r more) k =
    let m = each_taken_out IsKept o k in taking c d cs rest (all_of order) o (m.0 _ _ bound d r) (run_is_whole more m.1)

positive_kept : (p : Pattern) → IsKept (positive p)
positive_kept p inside outside bound d e =
    subst (λ (x : Condition). ReorderedInside (positive p) x) (sym (ready_positive p inside outside bound d e).same) (the_same (positive p))

negated_kept : (p : Pattern) → IsKept (negated p)
negated_kept p inside outside bound d e =
    subst (λ (x : Condition). ReorderedInside (negated p) x) (sym (ready_negated p inside outside bound d e).same) (the_same (negated p))

inside_kept : (cs : Conditions) → Each IsKept cs → IsKept (conjunctive cs)
inside_kept cs k inside outside bound d e = of (ready_inside cs inside outside bound d e)
  where
    of : ReadyInside outside bound cs d → ReorderedInside (conjunctive cs) d
    of r = subst (λ (x : Condition). ReorderedInside (conjunctive cs) x) (sym r.same) (within cs (all_of r.order) (run_is_whole r.run k))

pub is_kept : (c : Condition) → IsKept c
is_kept = of_condition IsKept positive_kept negated_kept inside_kept

-- what is taken in turn until none is left is the same in another order
pub is_whole :
    {inside : Bool} {outside bound last : List ℕ} {cs : Conditions} {order : List Condition} → Run inside outside bound cs order last no_more → Reordered cs (all_of order)
is_whole {cs = cs} r = run_is_whole r (of_each IsKept positive_kept negated_kept inside_kept cs)

pub checked_is_whole : (p q : ProductionOf) → ordered p ≡ Ok q → Reordered p.conditions q.conditions
checked_is_whole p q e = let c = checked p q e in subst (λ (r : ProductionOf). Reordered p.conditions r.conditions) (sym c.same) (is_whole c.run)
