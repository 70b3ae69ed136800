-- The marks of a set, and the list of its variables.
use Rattle.std.proofs.Common.{◌≡◌, ℕ, zero, suc, ◌<◌, ◌+◌, Bool, true, false, ◌||◌, ◌==◌, List, [], ◌∷◌, refl, sym, ap, ◌∙◌, arith, eq-eqb}
use Rattle.std.proofs.lemmas.Bool.{ne_eqb}
use Rattle.soar_rule.specs.Variables.{is_among}
use Rattle.rule_check.specs.Marking.{AreMarked, is_marked}
use Rattle.rule_check.specs.Members.{members_from, members}

earlier_not : (marks : List Bool) (from number : ℕ) → number < from → false ≡ is_among (members_from from marks) number
earlier_not [] from number before = refl
earlier_not (true ∷ marks) from number before =
    let other : (number == from) ≡ false = ne_eqb number from (omega arith) in
    earlier_not marks (suc from) number (omega arith) ∙ ap (λ b. b || is_among (members_from (suc from) marks) number) (sym other)
earlier_not (false ∷ marks) from number before = earlier_not marks (suc from) number (omega arith)

later_marked : (marks : List Bool) (from at : ℕ) → is_marked marks at ≡ is_among (members_from from marks) (from + at)
later_marked [] from at = refl
later_marked (true ∷ marks) from zero =
    let same : ((from + 0) == from) ≡ true = eq-eqb (from + 0) from (omega arith) in
    ap (λ b. b || is_among (members_from (suc from) marks) (from + 0)) (sym same)
later_marked (true ∷ marks) from (suc at) =
    let other : ((from + suc at) == from) ≡ false = ne_eqb (from + suc at) from (λ e. omega arith) in
    let moved : suc from + at ≡ from + suc at = omega arith in
    later_marked marks (suc from) at ∙ ap (is_among (members_from (suc from) marks)) moved ∙ ap (λ b. b || is_among (members_from (suc from) marks) (from + suc at)) (sym other)
later_marked (false ∷ marks) from zero = earlier_not marks (suc from) (from + 0) (omega arith)
later_marked (false ∷ marks) from (suc at) =
    let moved : suc from + at ≡ from + suc at = omega arith in
    later_marked marks (suc from) at ∙ ap (is_among (members_from (suc from) marks)) moved

pub marked_among : (marks : List Bool) (number : ℕ) → is_marked marks number ≡ is_among (members marks) number
unfolding members
marked_among marks number =
    let moved : 0 + number ≡ number = omega arith in
    later_marked marks 0 number ∙ ap (is_among (members_from 0 marks)) moved

-- the list is one whose variables have the marks
pub members_marked : (marks : List Bool) → AreMarked marks (members marks)
members_marked marks = marked_among marks
