use Rattle.std.proofs.Common.{◌≡◌, ◌∙◌, ap, sym, Bool, ℕ, List}
use Rattle.std.proofs.lemmas.List.Folds.{list_all-map}
use Rattle.soar_rule.specs.Below.{cond_below, cond_step, conds_below}
use Rattle.soar_rule.specs.declared.cond.Cond.{Cond, fold-roll-Cond}
use Rattle.soar_rule.specs.declared.cond.Cond.TheVariants.{Conj, rolls-Conj}
use Rattle.soar_rule.specs.declared.cond.Cond.TheOpen as layer
use Rattle.matching_tests.proofs.enumeration.rows.conjunctive.Goals as goal

below_conj : (bound : ℕ) (inside : List Cond) → cond_below bound (Conj inside) ≡ conds_below bound inside
below_conj bound inside =
    ap (cond_below bound) (sym (rolls-Conj inside)) ∙ fold-roll-Cond Bool (cond_step bound) (layer.Conj inside) ∙ list_all-map (λ b. b) (cond_below bound) inside

pub returns : goal.returns
returns c = below_conj 10 c.args.inside ∙ c.requires
