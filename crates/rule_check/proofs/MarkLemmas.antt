-- The mark of a number once one is set.
use Rattle.std.proofs.Common.{◌≡◌, ℕ, ◌<◌, Bool, true, false, ◌||◌, ◌==◌, List, [], ◌∷◌, length, get_or, set, refl, ◌∙◌}
use Rattle.std.proofs.lemmas.Bool.{eqb-true, eqb-false}
use Rattle.std.proofs.lemmas.List.{get_or-set_other}
use Rattle.std.proofs.lemmas.Grind.{get_or-set_at}
use Rattle.soar_rule.specs.Variables.{is_among}

or_true : (b : Bool) → true ≡ b || (true || false)
or_true true = refl
or_true false = refl

pub or_false : (b : Bool) → b ≡ b || (false || false)
or_false true = refl
or_false false = refl

pub set_marked : (marks : List Bool) (at number : ℕ) → at < length marks → get_or (set marks at true) number false ≡ get_or marks number false || is_among (at ∷ []) number
set_marked marks at number within = by (number == at) refl
  where
    by : (b : Bool) → (number == at) ≡ b → get_or (set marks at true) number false ≡ get_or marks number false || (b || false)
    by true e = get_or-set_at marks at number true false (eqb-true number at e) within ∙ or_true (get_or marks number false)
    by false e = get_or-set_other marks at number true false (eqb-false number at e) ∙ or_false (get_or marks number false)
