use Rattle.std.proofs.Common.{◌∙◌, suc, drop, length, ap, subst, sym, arith}
use Rattle.defs_soar.specs.Resettling.{removal_events}
use Rattle.defs_soar.specs.Trimming.{at_depths}
use Rattle.trace_laws.specs.Events.{AreEventsKnown}
use Rattle.decision_parts.proofs.KnownLemmas.{goals_removed_known}
use Rattle.decision_parts.proofs.LeavingLemmas.{as_many, behind_are, left_behind}
use Rattle.decision_parts.proofs.leaving.walk_on.Goals as goal

pub behind-requires : goal.behind-requires
behind-requires c =
    let before = c.in_ok-before.ensures ∙ ap (at_depths 1) (c.as_slice.ensures ∙ c.list.ensures.goals) in
    let count = c.len.ensures ∙ ap length c.list-2.ensures.goals in
    omega (arith, count, c.in_ok-decided.ensures.fewer, ap length c.as_slice-2.ensures, as_many c.args.parts.now.goals c.in_ok-before.before before)

pub returns-clause-removed : goal.returns-clause-removed
returns-clause-removed c s stands =
    let goals = c.args.parts.now.goals in
    let left = c.walk_goals.new.parts.goals in
    let before = c.in_ok-before.ensures ∙ ap (at_depths 1) (c.as_slice.ensures ∙ c.list.ensures.goals) in
    let count = c.len.ensures ∙ ap length c.list-2.ensures.goals in
    let removed = c.in_ok-removed.ensures ∙ (λ k. drop (count k) (c.as_slice-2.ensures k)) in
    left_behind c.cuts_remove.ensures s goals left c.in_ok-removed.removed stands.goals (c.in_ok-decided.ensures.stands s stands).goals
    (behind_are goals (length left) c.in_ok-before.before c.in_ok-removed.removed before removed)

pub returns-clause-removed_known : goal.returns-clause-removed_known
returns-clause-removed_known c =
    let a = c.args.parts.now in
    let n = length c.walk_goals.new.parts.goals in
    let before = c.in_ok-before.ensures ∙ ap (at_depths 1) (c.as_slice.ensures ∙ c.list.ensures.goals) in
    let count = c.len.ensures ∙ ap length c.list-2.ensures.goals in
    let removed = c.in_ok-removed.ensures ∙ (λ k. drop (count k) (c.as_slice-2.ensures k)) in
    subst (λ gone. AreEventsKnown a.table (removal_events gone)) (sym (behind_are a.goals n c.in_ok-before.before c.in_ok-removed.removed before removed))
    (goals_removed_known a.table a.letters (suc n) n a.goals c.requires.sound.goals_known)
