-- Lists of variables.
use Rattle.std.proofs.Common.{◌≡◌, ℕ, ◌||◌, ◌==◌, List, [], ◌∷◌, ◌++◌, refl, sym, ap, ◌∙◌}
use Rattle.std.proofs.Math.Bool.{or_assoc}
use Rattle.soar_rule.specs.Variables.{is_among}

pub among_joined : (vs ws : List ℕ) (v : ℕ) → is_among (vs ++ ws) v ≡ is_among vs v || is_among ws v
among_joined [] ws v = refl
among_joined (w ∷ vs) ws v = ap (λ b. (v == w) || b) (among_joined vs ws v) ∙ sym (or_assoc (v == w) (is_among vs v) (is_among ws v))
