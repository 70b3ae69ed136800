use Rattle.std.proofs.Common.{[], ◌∷◌}
use Rattle.defs_soar.specs.Events.{begins, input_phase}
use Rattle.step_report.specs.Reports.{settled_events}
use Rattle.cycle_parts.proofs.input_phase.say_input.Goals as goal

pub returns : goal.returns
returns c =
    c.says_in_turn.ensures c.args.watch c.args.table.now (begins input_phase ∷ []) (settled_events c.args.settled.now) c.args.mid_line.now c.begin_part.new.mid_line c.say_settled.new.mid_line
    c.args.out.now c.begin_part.new.out c.say_settled.new.out c.in_ok-begin_part.ensures c.in_ok-say_settled.ensures
