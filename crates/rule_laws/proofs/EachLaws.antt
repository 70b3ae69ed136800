-- A property of each condition of a list, and induction over conditions, inside negations too.
use Rattle.soar_rule.specs.declared.cond.Pattern.{Pattern}
use Rattle.soar_rule.specs.Conditions.{Condition, positive, negated, conjunctive, Conditions, no_more, condition_and}
use Rattle.soar_rule.specs.Reordering.{TakenOut, first, later}

-- each condition of the list has the property
abbrev pub Each : (Condition → Type 0) → Conditions → Type 0
Each P no_more = Unit {0}
Each P (condition_and c cs) = P c × Each P cs

module _
    (P : Condition → Type 0) (of_positive : (p : Pattern) → P (positive p)) (of_negated : (p : Pattern) → P (negated p))
    (of_conjunctive : (cs : Conditions) → Each P cs → P (conjunctive cs)) where
  mutual
    -- each condition has the property that a list hands on to its negation
    pub of_condition : (c : Condition) → P c
    of_condition (positive p) = of_positive p
    of_condition (negated p) = of_negated p
    of_condition (conjunctive cs) = of_conjunctive cs (of_each cs)

    pub of_each : (cs : Conditions) → Each P cs
    of_each no_more = tt
    of_each (condition_and c cs) = (of_condition c, of_each cs)

-- what is taken out has it, and so have the others
pub each_taken_out : (P : Condition → Type 0) {c : Condition} {cs rest : Conditions} → TakenOut c cs rest → Each P cs → P c × Each P rest
each_taken_out P (first c cs) h = h
each_taken_out P (later c d cs rest t) h = let r = each_taken_out P t h.1 in (r.0, (h.0, r.1))
