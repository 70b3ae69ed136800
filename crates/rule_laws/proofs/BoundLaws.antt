-- What is checked can be matched: relations are on bound variables, and negations are not too deep.
use Rattle.std.proofs.Common.{◌≡◌, ℕ, Bool, true, false, ◌&&◌, ◌||◌, nat_lt, List, ◌++◌, None, Ok, refl, sym, ◌∙◌, ap}
use Rattle.std.specs.Prelude.{not}
use Rattle.soar_rule.specs.declared.cond.Pattern.{Pattern}
use Rattle.soar_rule.specs.AsItStands.{is_nothing, is_bound_where_it_stands, are_bound_where_they_stand, can_be_matched}
use Rattle.soar_rule.specs.Checking.{Fault, fault_if, too_deep, ordered}
use Rattle.soar_rule.specs.Conditions.{Condition, positive, negated, conjunctive, Conditions, all_of}
use Rattle.soar_rule.specs.MatchOrder.{is_ready, readiness}
use Rattle.soar_rule.specs.Productions.{ProductionOf}
use Rattle.soar_rule.specs.Sizes.{depth_of_all, is_too_deep}
use Rattle.soar_rule.specs.Variables.{bound_by}
use Rattle.rule_laws.proofs.CheckedLaws.{Checked, checked}
use Rattle.rule_laws.proofs.EachLaws.{Each, of_each, each_taken_out}
use Rattle.rule_laws.proofs.KeptLaws.{depth_kept}
use Rattle.rule_laws.proofs.ReadyLaws.{ready_positive, ready_negated, ready_inside}
use Rattle.rule_laws.proofs.RunLaws.{Run, ended, going}
use Rattle.rule_laws.proofs.WholeLaws.{is_whole}

-- ---- relations

-- as it is ready, each variable of a relation is bound
abbrev IsBound : Condition → Type 0
IsBound c = (inside : Bool) (outside bound : List ℕ) (d : Condition) → readiness c inside outside bound ≡ is_ready d → is_bound_where_it_stands bound d ≡ true

run_is_bound :
    {inside : Bool} {outside bound last : List ℕ} {cs left : Conditions} {order : List Condition} → Run inside outside bound cs order last left → Each IsBound cs →
    are_bound_where_they_stand bound (all_of order) ≡ true
run_is_bound ended k = refl
run_is_bound {inside} {outside} (going {bound = bound} {order = order} c d o r more) k =
    let m = each_taken_out IsBound o k in
    ap (λ b. b && are_bound_where_they_stand (bound ++ bound_by d) (all_of order)) (m.0 inside outside bound d r) ∙ run_is_bound more m.1

positive_bound : (p : Pattern) → IsBound (positive p)
positive_bound p inside outside bound d e = let r = ready_positive p inside outside bound d e in ap (is_bound_where_it_stands bound) r.same ∙ ap is_nothing r.known

negated_bound : (p : Pattern) → IsBound (negated p)
negated_bound p inside outside bound d e = let r = ready_negated p inside outside bound d e in ap (is_bound_where_it_stands bound) r.same ∙ ap is_nothing r.known

inside_bound : (cs : Conditions) → Each IsBound cs → IsBound (conjunctive cs)
inside_bound cs k inside outside bound d e = let r = ready_inside cs inside outside bound d e in ap (is_bound_where_it_stands bound) r.same ∙ run_is_bound r.run k

is_bound :
    {inside : Bool} {outside bound last : List ℕ} {cs left : Conditions} {order : List Condition} → Run inside outside bound cs order last left →
    are_bound_where_they_stand bound (all_of order) ≡ true
is_bound {cs = cs} r = run_is_bound r (of_each IsBound positive_bound negated_bound inside_bound cs)

-- ---- depth

not_if : (b : Bool) (fault : Fault) → fault_if b fault ≡ None → b ≡ false
not_if true fault e = cc
not_if false fault e = refl

not_either : (a b : Bool) → (a || b) ≡ false → a ≡ false
not_either true b e = e
not_either false b e = refl

pub checked_is_bound : (p q : ProductionOf) → ordered p ≡ Ok q → can_be_matched q ≡ true
checked_is_bound p q e = of (checked p q e)
  where
    of : Checked p q → can_be_matched q ≡ true
    of c =
        let shallow = not_either (nat_lt 8 (depth_of_all p.conditions)) _ (not_if (is_too_deep p) too_deep c.faults.depth) in
        ap can_be_matched c.same ∙ ap (λ b. b && not (nat_lt 8 (depth_of_all (all_of c.taken.order)))) (is_bound c.run)
        ∙ ap (λ n. not (nat_lt 8 n)) (sym (depth_kept (is_whole c.run))) ∙ ap not shallow
