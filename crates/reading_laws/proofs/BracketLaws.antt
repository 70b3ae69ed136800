-- The brackets of a printed production are few where its negations and calls are not deep.
use Rattle.std.specs.Prelude.{map, nat_lt}
use Rattle.std.specs.List.{list_any}
use Rattle.std.proofs.Common.{◌≡◌, false, [], ◌∷◌, List, ℕ, suc, ◌+◌, ◌≤◌, arith}
use Rattle.std.proofs.lemmas.Bool.Decides.{nat_tests}
use Rattle.soar_rule.specs.declared.cond.Pattern.{Pattern}
use Rattle.soar_rule.specs.Conditions.{Condition, positive, negated, conjunctive, Conditions, no_more, condition_and}
use Rattle.soar_rule.specs.Productions.{ValueOf, atom_value, call_value, ValuesOf, no_values, value_and, values_of, PreferenceOf, accepts, rejects, requires_it, prohibits, is_best, is_worst, is_indifferent, is_better_than, is_worse_than, is_indifferent_to, ActionOf, makes, writes, halts, ProductionOf}
use Rattle.soar_rule.specs.Sizes.{depth_of, depth_of_all, calls_in, calls_in_all, deepest_of, calls_of_referent, calls_of, is_too_deep}
use Rattle.soar_rule.specs.Variables.{referent_value}
use Rattle.soar_sym.specs.Words.{Texts}
use Rattle.defs_read.specs.Grammar.{Simple}
use Rattle.defs_read.specs.PrintingConditions.{Naming}
use Rattle.defs_read.specs.ReadingActions.{most_open}
use Rattle.reading_laws.specs.Brackets.{most, field_brackets, group_brackets, part_brackets, parts_brackets, term_brackets, terms_brackets, wish_brackets, action_brackets, brackets}
use Rattle.reading_laws.proofs.NameLaws.{neither}
use Rattle.reading_laws.specs.TreeBack.{test_back, id_test_back, tests_back, group_back, part_back, parts_back, term_back, terms_back, wish_back, action_back, first_back, others_back, tree_back}

-- ---- conditions

field_few : (tests : List Simple) → field_brackets (tests_back tests) ≤ 1
field_few [] = omega arith
field_few (t ∷ []) = omega arith
field_few (t ∷ u ∷ tests) = omega arith

group_few : (n : Naming) (p : Pattern) → group_brackets (group_back n p) ≤ 1
group_few n p =
    let id = field_few (map (id_test_back n) p.id.tests) in
    let attr = field_few (map (test_back n) p.attr.tests) in
    let value = field_few (map (test_back n) p.value.tests) in
    omega arith

mutual
  part_few : (c : Condition) (n : Naming) → part_brackets (part_back c n) ≤ 2 + depth_of c
  part_few (positive p) n = let few = group_few n p in omega arith
  part_few (negated p) n = let few = group_few n p in omega arith
  part_few (conjunctive no_more) n = omega arith
  part_few (conjunctive (condition_and c cs)) n = let here = part_few c n in let there = parts_few cs n in omega arith

  parts_few : (cs : Conditions) (n : Naming) → parts_brackets (parts_back cs n) ≤ 2 + depth_of_all cs
  parts_few no_more n = omega arith
  parts_few (condition_and c cs) n = let here = part_few c n in let there = parts_few cs n in omega arith

first_few : (cs : Conditions) (n : Naming) → part_brackets (first_back cs n) ≤ 2 + depth_of_all cs
first_few no_more n = omega arith
first_few (condition_and c cs) n = let few = part_few c n in omega arith

others_few : (cs : Conditions) (n : Naming) → parts_brackets (others_back cs n) ≤ 2 + depth_of_all cs
others_few no_more n = omega arith
others_few (condition_and c cs) n = let few = parts_few cs n in omega arith

-- ---- actions

mutual
  term_few : (v : ValueOf) (n : Naming) → term_brackets (term_back v n) ≤ calls_in v
  term_few (atom_value a) n = omega arith
  term_few (call_value f vs) n = let few = terms_few vs n in omega arith

  terms_few : (vs : ValuesOf) (n : Naming) → terms_brackets (terms_back vs n) ≤ calls_in_all vs
  terms_few no_values n = omega arith
  terms_few (value_and v vs) n = let here = term_few v n in let there = terms_few vs n in omega arith

written_few : (written : List ValueOf) (n : Naming) → terms_brackets (terms_back (values_of written) n) ≤ deepest_of written
written_few [] n = omega arith
written_few (v ∷ written) n = let here = term_few v n in let there = written_few written n in omega arith

wish_few : (p : PreferenceOf) (n : Naming) → wish_brackets (wish_back n p) ≤ calls_of_referent (referent_value p)
wish_few accepts n = omega arith
wish_few rejects n = omega arith
wish_few requires_it n = omega arith
wish_few prohibits n = omega arith
wish_few is_best n = omega arith
wish_few is_worst n = omega arith
wish_few is_indifferent n = omega arith
wish_few (is_better_than v) n = term_few v n
wish_few (is_worse_than v) n = term_few v n
wish_few (is_indifferent_to v) n = term_few v n

action_few : (a : ActionOf) (n : Naming) → action_brackets (action_back n a) ≤ calls_of a
action_few (makes id attr value p) n = let first = term_few attr n in let second = term_few value n in let third = wish_few p n in omega arith
action_few (writes written) n = written_few written n
action_few halts n = omega arith

not_deep : (k : ℕ) → nat_lt 8 k ≡ false → k ≤ 8
not_deep k e = grind (arith, nat_tests)

actions_few : (actions : List ActionOf) (n : Naming) → list_any (λ a. nat_lt 8 (calls_of a)) actions ≡ false → most (λ a. suc (action_brackets a)) (map (action_back n) actions) ≤ 9
actions_few [] n e = omega arith
actions_few (a ∷ actions) n e =
    let each = neither (nat_lt 8 (calls_of a)) (list_any (λ a. nat_lt 8 (calls_of a)) actions) e in
    let few = action_few a n in
    let shallow : calls_of a ≤ 8 = not_deep (calls_of a) each.0 in
    let later = actions_few actions n each.1 in
    omega arith

-- ---- the whole

pub brackets_few : (words : Texts) (p : ProductionOf) → is_too_deep p ≡ false → brackets (tree_back words p) ≤ most_open
brackets_few words p e =
    let n : Naming = record { words = words; vars = p.vars } in
    let each = neither (nat_lt 8 (depth_of_all p.conditions)) (list_any (λ a. nat_lt 8 (calls_of a)) p.actions) e in
    let shallow : depth_of_all p.conditions ≤ 8 = not_deep (depth_of_all p.conditions) each.0 in
    let first = first_few p.conditions n in
    let others = others_few p.conditions n in
    let actions = actions_few p.actions n each.1 in
    omega arith
