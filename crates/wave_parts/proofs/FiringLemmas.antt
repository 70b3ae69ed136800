-- The goals of the parts, as the firings of a wave need them.
use Rattle.std.proofs.Common.{ℕ, List, [], ◌∷◌, inl, inr, refl}
use Rattle.soar_sym.specs.Words.{Texts}
use Rattle.soar_rule.specs.Symbols.{AreKnown}
use Rattle.defs_soar.specs.declared.goal.Goal.{Goal}
use Rattle.defs_soar.specs.Goals.{goal_ids}
use Rattle.wave_parts.specs.Seen.{AreGoalsKnown}

pub ids_known : (words : Texts) (letters : List ℕ) (goals : List Goal) → AreGoalsKnown words letters goals → AreKnown words (goal_ids goals)
ids_known words letters [] h = tt
ids_known words letters (g ∷ goals) h = ((h g (inl refl)).id_known, ids_known words letters goals (λ x is. h x (inr is)))
