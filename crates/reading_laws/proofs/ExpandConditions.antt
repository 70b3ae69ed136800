-- The tree of printed conditions means the conditions again.
use Rattle.std.proofs.Common.{◌≡◌, refl, ap, true, false, [], ◌∷◌, ◌++◌, List}
use Rattle.soar_rule.specs.declared.cond.Pattern.{Pattern}
use Rattle.soar_rule.specs.Conditions.{Condition, positive, negated, conjunctive, Conditions, no_more, condition_and, all_of}
use Rattle.soar_rule.specs.Variables.{variables_of_field, variables_of_pattern, variables_of_condition, variables_of_conditions}
use Rattle.defs_read.specs.ConditionExpansion.{triple_condition, signed, with_values, along, group_tests, group_conditions, part_conditions, parts_conditions}
use Rattle.defs_read.specs.FieldExpansion.{field_of}
use Rattle.defs_read.specs.FreshNames.{expanded, then_expand}
use Rattle.reading_laws.specs.Printable.{IsPattern, IsSome, IsCondition, AreConditions}
use Rattle.reading_laws.specs.TreeBack.{field_back, id_back, group_back, part_back, inside_back, parts_back}
use Rattle.reading_laws.proofs.ExpandFields.{Setting, Back, back_gives, back_then, back_same, back_made, field_again, id_again}

-- a triple behind its field
triple_again : (c : Setting) (p : Pattern) → IsPattern c.n.words p
    → Back c (group_conditions c.read (group_back c.n p)) (positive p ∷ []) (variables_of_pattern p)
triple_again c p h =
    back_then c (field_of c.read (id_back c.n p.id)) p.id (variables_of_field p.id) (λ id g. group_tests c.read p.state id (group_back c.n p).tests g) (positive p ∷ []) (variables_of_field p.attr ++ variables_of_field p.value) (id_again c p.id h.0)
    (back_made c (λ f. along c.read p.state p.id (field_back c.n p.attr) [] (record { value = field_back c.n p.value; accept = p.accept } ∷ []) f) (positive p ∷ []) (variables_of_field p.attr ++ variables_of_field p.value) (λ cs. signed false cs ++ [])
    (back_then c (field_of c.read (field_back c.n p.attr)) p.attr (variables_of_field p.attr) (λ attr g. with_values c.read p.state p.id attr (record { value = field_back c.n p.value; accept = p.accept } ∷ []) g) (positive p ∷ []) (variables_of_field p.value) (field_again c p.attr h.1)
    (back_made c (field_of c.read (field_back c.n p.value)) p.value (variables_of_field p.value) (λ value. triple_condition p.state p.id p.attr value p.accept ∷ []) (field_again c p.value h.2))))

-- the conditions as a list
abbrev pub listed : Conditions → List Condition
listed no_more = []
listed (condition_and c cs) = c ∷ listed cs

pub all_listed : (cs : Conditions) → all_of (listed cs) ≡ cs
all_listed no_more = refl
all_listed (condition_and c cs) = ap (condition_and c) (all_listed cs)

mutual
  part_again : (d : Condition) (c : Setting) → IsCondition d c.n.words → Back c (λ f. part_conditions (part_back d c.n) c.read f) (d ∷ []) (variables_of_condition d)
  part_again (positive p) c h = back_made c (group_conditions c.read (group_back c.n p)) (positive p ∷ []) (variables_of_pattern p) (signed false) (triple_again c p h)
  part_again (negated p) c h = back_made c (group_conditions c.read (group_back c.n p)) (positive p ∷ []) (variables_of_pattern p) (signed true) (triple_again c p h)
  part_again (conjunctive inside) c h = inside_again inside c h.0 h.1

  inside_again : (ds : Conditions) (c : Setting) → IsSome ds → AreConditions ds c.n.words → Back c (λ f. part_conditions (inside_back ds c.n) c.read f) (conjunctive ds ∷ []) (variables_of_conditions ds)
  inside_again no_more c some h = absurd some
  inside_again (condition_and d ds) c some h =
      back_then c (λ f. part_conditions (part_back d c.n) c.read f) (d ∷ []) (variables_of_condition d) (λ cs g. then_expand (parts_conditions (parts_back ds c.n) c.read g) (λ more h. expanded (conjunctive (all_of (cs ++ more)) ∷ []) h))
      (conjunctive (condition_and d ds) ∷ []) (variables_of_conditions ds) (part_again d c h.0)
      (back_same c (λ g. then_expand (parts_conditions (parts_back ds c.n) c.read g) (λ more h. expanded (conjunctive (all_of ((d ∷ []) ++ more)) ∷ []) h)) (conjunctive (condition_and d (all_of (listed ds))) ∷ []) (conjunctive (condition_and d ds) ∷ [])
      (variables_of_conditions ds) (variables_of_conditions ds) (ap (λ l. conjunctive (condition_and d l) ∷ []) (all_listed ds)) refl
      (back_made c (λ f. parts_conditions (parts_back ds c.n) c.read f) (listed ds) (variables_of_conditions ds) (λ more. conjunctive (all_of ((d ∷ []) ++ more)) ∷ []) (parts_again ds c h.1)))

  pub parts_again : (ds : Conditions) (c : Setting) → AreConditions ds c.n.words → Back c (λ f. parts_conditions (parts_back ds c.n) c.read f) (listed ds) (variables_of_conditions ds)
  parts_again no_more c h = back_gives c []
  parts_again (condition_and d ds) c h =
      back_then c (λ f. part_conditions (part_back d c.n) c.read f) (d ∷ []) (variables_of_condition d) (λ cs g. then_expand (parts_conditions (parts_back ds c.n) c.read g) (λ more h. expanded (cs ++ more) h))
      (listed (condition_and d ds)) (variables_of_conditions ds) (part_again d c h.0)
      (back_made c (λ f. parts_conditions (parts_back ds c.n) c.read f) (listed ds) (variables_of_conditions ds) (λ more. (d ∷ []) ++ more) (parts_again ds c h.1))
