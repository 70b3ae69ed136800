use Rattle.std.proofs.Common.{◌∙◌, [], sym, ap, subst}
use Rattle.defs_soar.specs.Sorted.{has_symbol}
use Rattle.level_change.specs.Forgetting.{Forgetting}
use Rattle.level_change.specs.Links.{level_at, is_linked}
use Rattle.level_change.proofs.HadLemmas.{forget_next, forget_done}
use Rattle.level_change.proofs.TotalLemmas.{popped}
use Rattle.level_change.proofs.forgetting.forget.Goals as goal

pub waiting-smaller : goal.waiting-smaller
waiting-smaller c =
    popped _ _ c.waiting.waiting c.pop.new.self c.in-Some.last c.in-Some.ensures
    (c.in_ok-forget_from.ensures.less c.args.links.now c.in-Some.last.id (λ y h. c.in_ok-values.ensures y ∙ ap (λ l. has_symbol l y) (sym c.as_slice.ensures) ∙ h))

pub waiting-preserved : goal.waiting-preserved
waiting-preserved c =
    let links = is_linked c.args.links.now in
    let goals = c.args.goals.now in
    let now = level_at c.args.levels.now.entries c.waiting.told.entries in (
      (λ first x f.
          let before = subst (λ q. Forgetting links goals first now c.waiting.had q x []) c.in-Some.ensures (c.waiting.invariant.0 first x f) in
          let step = forget_next links goals first now c.waiting.had c.pop.new.self c.in-Some.last x c.as_slice.result.now (λ y. c.in_ok-values.ensures y ∙ ap (λ l. has_symbol l y) (sym c.as_slice.ensures)) before in
          forget_done links goals first (level_at c.args.levels.now.entries c.forget_from.new.told.entries) c.forget_from.new.had c.forget_from.new.waiting c.in-Some.last.id x
          (c.in_ok-forget_from.ensures.forgets links first c.in-Some.last.id step.0 step.1)),
      (λ s h. c.in_ok-forget_from.ensures.kept s (c.waiting.invariant.1 s h)),
    )

pub returns-clause-forgets : goal.returns-clause-forgets
returns-clause-forgets c = λ first x f.
    subst (λ q. Forgetting (is_linked c.args.links.now) c.args.goals.now first (level_at c.args.levels.now.entries c.waiting.told.entries) c.waiting.had q x []) c.in_default.ensures.0 (c.waiting.invariant.0 first x f)
