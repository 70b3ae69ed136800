-- Variables that join a set.
use Rattle.std.proofs.Common.{◌≡◌, ℕ, ◌+◌, ◌<◌, Bool, List, [], ◌∷◌, ◌++◌, length, take, get_or, flat_map, sym, ap, subst, ◌∙◌, append-nil, append_assoc}
use Rattle.soar_rule.specs.declared.cond.Cond.{Cond}
use Rattle.soar_rule.specs.declared.cond.Test.{Test}
use Rattle.soar_rule.specs.Conditions.{condition, conditions}
use Rattle.soar_rule.specs.Variables.{bound_by, plain_in_test, plain_outside}
use Rattle.rule_check.specs.Marking.{AreMarked, Joined}
use Rattle.rule_check.proofs.ItemLemmas.{take_item}

pub joined_none : (marks : List Bool) → Joined marks marks []
joined_none marks variables marked = subst (AreMarked marks) (sym (append-nil variables)) marked

pub joined_then : (first second third : List Bool) (vs ws : List ℕ) → Joined first second vs → Joined second third ws → Joined first third (vs ++ ws)
joined_then first second third vs ws one two variables marked = subst (AreMarked third) (append_assoc variables vs ws) (two (variables ++ vs) (one variables marked))

plain_pushed : (tests : List Test) (t : Test) → flat_map plain_in_test (tests ++ t ∷ []) ≡ flat_map plain_in_test tests ++ plain_in_test t
plain_pushed [] t = append-nil (plain_in_test t)
plain_pushed (u ∷ tests) t = ap (λ vs. plain_in_test u ++ vs) (plain_pushed tests t) ∙ sym (append_assoc (plain_in_test u) (flat_map plain_in_test tests) (plain_in_test t))

-- the plain variables of one test more
pub plain_item : (tests : List Test) (i : ℕ) (t : Test) → i < length tests → t ≡ get_or tests i t → flat_map plain_in_test (take i tests) ++ plain_in_test t ≡ flat_map plain_in_test (take (i + 1) tests)
plain_item tests i t within at = sym (plain_pushed (take i tests) t) ∙ ap (flat_map plain_in_test) (sym (take_item tests i t within at))

outside_pushed : (conds : List Cond) (c : Cond) → plain_outside (conditions (conds ++ c ∷ [])) ≡ plain_outside (conditions conds) ++ bound_by (condition c)
outside_pushed [] c = append-nil (bound_by (condition c))
outside_pushed (d ∷ conds) c = ap (λ vs. bound_by (condition d) ++ vs) (outside_pushed conds c) ∙ sym (append_assoc (bound_by (condition d)) (plain_outside (conditions conds)) (bound_by (condition c)))

-- what one condition more binds
pub outside_item : (conds : List Cond) (i : ℕ) (c : Cond) → i < length conds → c ≡ get_or conds i c
    → plain_outside (conditions (take i conds)) ++ bound_by (condition c) ≡ plain_outside (conditions (take (i + 1) conds))
outside_item conds i c within at = sym (outside_pushed (take i conds) c) ∙ ap (λ cs. plain_outside (conditions cs)) (sym (take_item conds i c within at))
