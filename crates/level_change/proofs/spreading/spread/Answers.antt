use Rattle.std.proofs.Common.{◌∙◌, sym, ap, subst}
use Rattle.defs_soar.specs.Sorted.{has_symbol}
use Rattle.level_graph.specs.Spreading.{Spreads}
use Rattle.level_graph.proofs.PassLemmas.{spreads_on}
use Rattle.level_change.specs.Links.{level_at, is_linked}
use Rattle.level_change.proofs.TotalLemmas.{popped}
use Rattle.level_change.proofs.spreading.spread.Goals as goal

pub waiting-smaller-in-Some-level_of : goal.waiting-smaller-in-Some-level_of
waiting-smaller-in-Some-level_of c =
    popped _ _ c.waiting.waiting c.pop.new.self c.in-Some.id c.in-Some.ensures
    (c.in_ok-pass_on.ensures.less c.args.links.now c.in-Some.id (λ y h. c.in_ok-values.ensures y ∙ ap (λ l. has_symbol l y) (sym c.as_slice.ensures) ∙ h))

pub waiting-preserved-in-Some-level_of : goal.waiting-preserved-in-Some-level_of
waiting-preserved-in-Some-level_of c =
    let links = is_linked c.args.links.now in
    let goals = c.args.goals.now in
    let told = level_at c.args.levels.now.entries c.waiting.told.entries in (
      (λ first. spreads_on links goals told (level_at c.args.levels.now.entries c.pass_on.new.told.entries) c.pop.new.self c.pass_on.new.waiting c.in-Some.id c.in-Some-level_of.level c.as_slice.result.now
          (λ y. c.in_ok-values.ensures y ∙ ap (λ l. has_symbol l y) (sym c.as_slice.ensures))
          (subst (Spreads links goals told) c.in-Some.ensures (c.waiting.invariant.0 first)) (sym c.level_of.ensures ∙ c.in-Some-level_of.is) c.in_ok-pass_on.ensures.passed),
      (λ old k. c.in_ok-pass_on.ensures.moved old (c.waiting.invariant.1 old k)),
    )
