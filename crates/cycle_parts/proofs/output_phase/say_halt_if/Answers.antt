use Rattle.std.proofs.Common.{sym, subst}
use Rattle.step_report.specs.Saying.{SaysEvents}
use Rattle.cycle_parts.proofs.OutputLemmas.{halt_event, nothing_said}
use Rattle.cycle_parts.proofs.output_phase.say_halt_if.Goals as goal

pub returns-else-halted : goal.returns-else-halted
returns-else-halted c =
    let out = c.args.out.now in
    let mid = c.args.mid_line.now in
    subst (λ halted. SaysEvents c.args.watch c.args.table.now (halt_event halted) mid out mid out) (sym c.if-halted.false) (nothing_said c.args.watch c.args.table.now mid out)
