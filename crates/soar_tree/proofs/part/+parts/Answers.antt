-- the loop that reads conditions, and the words of a condition in braces
use Rattle.std.proofs.Common.{sym, ◌∙◌, ap, subst, ◌&&◌, arith}
use Rattle.std.specs.List.{list_all}
use Rattle.tree_parts.specs.Known.{is_part_known}
use Rattle.tree_parts.specs.Reading.{Gives}
use Rattle.tree_parts.specs.Seen.{part_seen}
use Rattle.soar_tree.proofs.ConditionLaws.{known_joined, part_grouped, part_joined}
use Rattle.tree_parts.proofs.LoopLaws.{pushed}
use Rattle.soar_tree.proofs.part.+parts.Goals as goal

pub part-returns-then-begins_mark-clause-gives : goal.part-returns-then-begins_mark-clause-gives
part-returns-then-begins_mark-clause-gives t c =
    subst (λ r. Gives (part_seen c.args.reader.now) c.args.reader.now c.grouped.result r)
    (sym (part_grouped c.args.depth _ _ _ (omega arith) c.sign_flag-negative.ensures.gives (sym (c.begins_mark.ensures c.args.reader.now) ∙ c.if-begins_mark.true))) c.grouped.ensures.gives

pub part-returns-else-begins_mark-clause-gives : goal.part-returns-else-begins_mark-clause-gives
part-returns-else-begins_mark-clause-gives t c =
    subst (λ r. Gives (part_seen c.args.reader.now) c.args.reader.now c.joined.result r)
    (sym (part_joined c.args.depth _ _ _ (omega arith) c.sign_flag-negative.ensures.gives (sym (c.begins_mark.ensures c.args.reader.now) ∙ c.if-begins_mark.false))) c.joined.ensures.gives

pub joined-returns-clause-known : goal.joined-returns-clause-known
joined-returns-clause-known t c =
    known_joined c.args.reader.now c.args.negative c.in_ok-parts.parts ∙ ap (list_all (is_part_known c.args.reader.now)) c.in_ok-parts.ensures
    ∙ ap (λ b. b && list_all (is_part_known c.args.reader.now) c.in_ok-others.others) c.in_ok-first.ensures.known ∙ c.in_ok-others.ensures.known

pub parts-parts-preserved : goal.parts-parts-preserved
parts-parts-preserved t c =
    pushed c.parts.invariant c.push.new.self c.in-Ok.part c.in-Ok.after.now c.in_ok-push-in-Ok.ensures.ok
    (sym (c.begins_part.ensures c.args.reader.now) ∙ c.parts-test.true) c.in-Ok.ensures.gives c.in-Ok.ensures.known c.in-Ok.ensures.rest
