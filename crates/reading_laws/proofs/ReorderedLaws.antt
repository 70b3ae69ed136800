-- The same conditions in another order can be printed too, and have the same variables.
use Rattle.std.proofs.Common.{◌≡◌, refl, sym, ◌∙◌, ap, ap₂, true, false, ℕ, Bool, ◌||◌}
use Rattle.soar_sym.specs.Words.{Texts}
use Rattle.soar_rule.specs.Conditions.{Condition, Conditions}
use Rattle.soar_rule.specs.Reordering.{TakenOut, first, later, ReorderedInside, the_same, within, Reordered, nothing, taking}
use Rattle.soar_rule.specs.Variables.{is_among, variables_of_condition, variables_of_conditions}
use Rattle.soar_rule.proofs.VariableLemmas.{among_joined}
use Rattle.reading_laws.specs.Printable.{IsSome, IsCondition, AreConditions}

-- ---- what can be printed

out_printable : (words : Texts) {c : Condition} {cs rest : Conditions} → TakenOut c cs rest → AreConditions cs words → IsCondition c words × AreConditions rest words
out_printable words (first c cs) h = (h.0, h.1)
out_printable words (later c d cs rest out) h = let r = out_printable words out h.1 in (r.0, (h.0, r.1))

pub some_again : {cs ds : Conditions} → Reordered cs ds → IsSome cs → IsSome ds
some_again nothing h = h
some_again (taking c d cs rest ds out inside others) h = tt

mutual
  inside_printable : (words : Texts) {c d : Condition} → ReorderedInside c d → IsCondition c words → IsCondition d words
  inside_printable words (the_same c) h = h
  inside_printable words (within cs ds same) h = (some_again same h.0, printable_again words same h.1)

  pub printable_again : (words : Texts) {cs ds : Conditions} → Reordered cs ds → AreConditions cs words → AreConditions ds words
  printable_again words nothing h = tt
  printable_again words (taking c d cs rest ds out inside others) h =
      let r = out_printable words out h in
      (inside_printable words inside r.0, printable_again words others r.1)

-- ---- variables

swapped : (a b c : Bool) → (a || (b || c)) ≡ (b || (a || c))
swapped true true c = refl
swapped true false c = refl
swapped false true c = refl
swapped false false c = refl

out_among : (v : ℕ) {c : Condition} {cs rest : Conditions} → TakenOut c cs rest → is_among (variables_of_conditions cs) v ≡ (is_among (variables_of_condition c) v || is_among (variables_of_conditions rest) v)
out_among v (first c cs) = among_joined (variables_of_condition c) (variables_of_conditions cs) v
out_among v (later c d cs rest out) =
    among_joined (variables_of_condition d) (variables_of_conditions cs) v
    ∙ ap (λ b. is_among (variables_of_condition d) v || b) (out_among v out)
    ∙ swapped (is_among (variables_of_condition d) v) (is_among (variables_of_condition c) v) (is_among (variables_of_conditions rest) v)
    ∙ ap (λ b. is_among (variables_of_condition c) v || b) (sym (among_joined (variables_of_condition d) (variables_of_conditions rest) v))

mutual
  inside_among : (v : ℕ) {c d : Condition} → ReorderedInside c d → is_among (variables_of_condition c) v ≡ is_among (variables_of_condition d) v
  inside_among v (the_same c) = refl
  inside_among v (within cs ds same) = among_again v same

  pub among_again : (v : ℕ) {cs ds : Conditions} → Reordered cs ds → is_among (variables_of_conditions cs) v ≡ is_among (variables_of_conditions ds) v
  among_again v nothing = refl
  among_again v (taking c d cs rest ds out inside others) =
      out_among v out ∙ ap₂ ◌||◌ (inside_among v inside) (among_again v others) ∙ sym (among_joined (variables_of_condition d) (variables_of_conditions ds) v)
