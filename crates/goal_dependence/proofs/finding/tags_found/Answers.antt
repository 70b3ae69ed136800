use Rattle.std.proofs.Common.{◌≡◌, ◌∙◌, ◌++◌, ap, drop, map, arith}
use Rattle.std.proofs.lemmas.List.{length-drop}
use Rattle.std.proofs.lemmas.Result.{IfOk-weaker}
use Rattle.kept_triples.specs.Kept.{level_in_kept}
use Rattle.soar_record.specs.Recorded.{recorded as kept_in}
use Rattle.goal_dependence.specs.Counted.{tags_as_told_from}
use Rattle.goal_dependence.specs.Remembered.{firings_of, past_by, reach_over, tags_found_from}
use Rattle.goal_dependence.proofs.RecordLemmas.{all_apart}
use Rattle.goal_dependence.proofs.ToldLemmas.{tags_same_from}
use Rattle.goal_dependence.proofs.finding.tags_found.Goals as goal

pub for_each-requires-clause-once : goal.for_each-requires-clause-once
for_each-requires-clause-once c = all_apart (kept_in c.args.past.now) (firings_of c.args.recorded.now) c.requires.new c.numbers_stand_once.ensures

pub returns : goal.returns
returns c = λ before elements tells.
    let told = level_in_kept c.args.levels.now in
    let firings = kept_in c.args.past.now ++ firings_of c.args.recorded.now in
    let added = c.args.added.now in
    let recorded = c.args.recorded.now in
    let below = drop 1 c.args.goals.now in
    IfOk-weaker c.for_each.result (λ tags. tags ≡ tags_as_told_from told firings added recorded 2 c.below_top.result.now)
    (λ tags. tags ≡ tags_found_from firings (map (past_by (reach_over before elements) added) recorded) 2 below)
    (λ tags is. is ∙ ap (tags_as_told_from told firings added recorded 2) c.below_top.ensures
    ∙ tags_same_from told before elements tells added firings 2 recorded below (omega (arith, length-drop 1 c.args.goals.now, c.requires.few)))
    c.for_each.ensures
