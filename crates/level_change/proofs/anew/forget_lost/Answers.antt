use Rattle.std.proofs.Common.{◌∙◌, [], sym, subst}
use Rattle.level_change.specs.Forgetting.{Forgetting}
use Rattle.level_change.specs.Links.{level_at, is_linked}
use Rattle.level_change.proofs.HadSteps.{forgets_first}
use Rattle.level_change.proofs.anew.forget_lost.Goals as goal

pub returns-clause-forgets : goal.returns-clause-forgets
returns-clause-forgets c = λ x.
    let links = is_linked c.args.links.now in
    let old = c.args.old.now in
    let first = level_at c.args.levels.now.entries c.args.told.now.entries in
    let now = level_at c.args.levels.now.entries c.clear_seeds.new.told.entries in
    c.in_ok-forget.ensures.forgets first x
    (subst (λ q. Forgetting links old first now c.in_ok-had.had q x []) (sym (c.in_ok-waiting.ensures ∙ c.as_slice-2.ensures)) (forgets_first links old first now c.in_ok-had.had _ x c.in_ok-had.ensures))
