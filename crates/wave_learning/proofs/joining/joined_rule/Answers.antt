use Rattle.std.proofs.Common.{ap, refl, sym, subst, List}
use Rattle.std.specs.Prelude.{nat_lt}
use Rattle.defs_match.specs.Rules.{rule_seen}
use Rattle.soar_wm.specs.declared.element.Element.{Element}
use Rattle.defs_soar.specs.declared.firing.Firing.{Firing}
use Rattle.firing_records.specs.Recorded.{recorded_seen, standing}
use Rattle.learned_firings.specs.Deciding.{AreThere}
use Rattle.soar_record.specs.Recorded.{recorded as kept_in}
use Rattle.trace_details.specs.Lessons.{lesson_seen}
use Rattle.wave_learning.specs.Seen.{explained_seen, rule_made}
use Rattle.wave_learning.proofs.JoinLemmas.{joining_is}
use Rattle.wave_learning.proofs.joining.joined_rule.Goals as goal

pub learned_firing-requires-clause-there : goal.learned_firing-requires-clause-there
learned_firing-requires-clause-there c = subst (λ (es : List Element). AreThere es (standing c.args.scene.now.before.now).elements) (sym c.as_slice.ensures) c.requires.matched.there

pub returns : goal.returns
returns c =
    let sc = c.args.scene.now in
    joining_is (standing sc.before.now) (kept_in sc.past.now) sc.on sc.local_negations (explained_seen c.args.explained.now) (rule_made c.args.rule) c.args.table.now c.args.number c.args.last _
    (recorded_seen c.in_ok-recorded.recorded) (lesson_seen c.in_ok-lesson.lesson) c.as_slice.result.now c.as_slice-2.result.now c.as_slice-3.result.now c.as_slice.ensures c.as_slice-2.ensures c.as_slice-3.ensures
    (rw c.in_ok-rule.ensures at c.in_ok-recorded.ensures) (rw c.deref-2.ensures at c.in_ok-lesson.ensures) c.in_ok-entry.ensures (ap rule_seen c.in_ok-rule.ensures)
    (ap (λ (f : Firing). nat_lt f.depth c.args.explained.now.depth) c.deref.ensures)
