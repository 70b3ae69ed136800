use Rattle.std.proofs.Common.{rules, ◌∙◌, ◌<◌, refl, length, get_or, arith}
use Rattle.soar_sym.specs.declared.symbol.Sym.TheVariants.{Ident}
use Rattle.level_graph.proofs.BuildLemmas.{told_step}
use Rattle.level_change.specs.Links.{level_at}
use Rattle.level_change.proofs.goals.tell_goals.Goals as goal

pub goals-preserved : goal.goals-preserved
goals-preserved c =
    let goals = c.args.goals.now in
    let i = c.goals.goal-index in
    let lt : i < length goals = search rules in
    let depth = c.goals.invariant.0 in
    let rise = c.saturating_add-depth.ensures in (
      omega (arith, depth, rise),
      (λ s. told_step goals i c.goals.depth s (level_at c.args.levels.now.entries c.goals.told.entries s) (level_at c.args.levels.now.entries c.tell_goal.new.told.entries s) (get_or goals i (Ident 0 0)) lt (Ident 0 0) refl depth (c.in_ok-tell_goal.ensures.told s) ∙ c.goals.invariant.1 s),
      (λ old k. c.in_ok-tell_goal.ensures.waiting old (c.goals.invariant.2 old k)),
      (λ old k. c.in_ok-tell_goal.ensures.moved old (c.goals.invariant.3 old k)),
    )
