use Rattle.std.proofs.Common.{◌∙◌, ◌≤◌, List, [], ◌∷◌, ◌++◌, ap, sym, subst, arith}
use Rattle.soar_sym.specs.declared.symbol.Sym.TheVariants.{Ident}
use Rattle.defs_soar.specs.declared.goal.Goal.{Goal}
use Rattle.defs_soar.specs.declared.goal.Impasse.TheVariants as impasse
use Rattle.defs_soar.specs.Decision.{new_goal}
use Rattle.soar_goals.specs.Known.{AreGoalsKnown}
use Rattle.decision_tests.proofs.goals.two_goals.Goals as goal

-- the identifiers are of the letter S, and the items known
pub returns-in-Ok-clause-known : goal.returns-in-Ok-clause-known
returns-in-Ok-clause-known c = λ words.
    let s : (65 ≤ 83) × (83 ≤ 90) = (omega arith, omega arith) in
    let second : Goal = new_goal (Ident 83 2) impasse.Tie c.in_ok-two_items.field-0 in
    subst (AreGoalsKnown words) (sym (c.in-Ok.ensures.ok ∙ ap (λ (goals : List Goal). goals ++ second ∷ []) c.in_ok-goals.ensures))
    ((s, tt), ((s, c.in_ok-two_items.ensures words), tt))
