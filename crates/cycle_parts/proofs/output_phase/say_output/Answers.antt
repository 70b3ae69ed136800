use Rattle.std.proofs.Common.{List, ◌++◌, map, subst}
use Rattle.defs_soar.specs.Events.{Event, shows, shows_no_longer}
use Rattle.step_report.specs.Saying.{SaysEvents}
use Rattle.cycle_parts.proofs.OutputLemmas.{all_known, output_said}
use Rattle.cycle_parts.proofs.output_phase.say_output.Goals as goal

pub say_outputs_at-requires-clause-gone : goal.say_outputs_at-requires-clause-gone
say_outputs_at-requires-clause-gone c = rw c.as_slice.ensures (all_known c.args.table.now c.args.changes.now.gone c.requires.gone)

pub say_outputs_at-requires-clause-new : goal.say_outputs_at-requires-clause-new
say_outputs_at-requires-clause-new c = rw c.as_slice-2.ensures (all_known c.args.table.now c.args.changes.now.new c.requires.new)

pub returns : goal.returns
returns c =
    let changed = subst (λ (events : List Event). SaysEvents c.args.watch c.args.table.now events c.begin_part.new.mid_line c.begin_part.new.out c.say_outputs_at.new.mid_line c.say_outputs_at.new.out)
    (λ i. map shows_no_longer (c.as_slice.ensures i) ++ map shows (c.as_slice-2.ensures i)) c.in_ok-say_outputs_at.ensures in
    output_said c.says_in_turn.ensures c.args.watch c.args.table.now c.args.changes.now.gone c.args.changes.now.new c.args.halted c.args.mid_line.now c.begin_part.new.mid_line c.say_outputs_at.new.mid_line c.say_halt_if.new.mid_line
    c.args.out.now c.begin_part.new.out c.say_outputs_at.new.out c.say_halt_if.new.out c.in_ok-begin_part.ensures
    changed c.in_ok-say_halt_if.ensures
