use Rattle.trace_lines.specs.Saying.{part_of}
use Rattle.cycle_phases.proofs.CycleLemmas.{uncut}
use Rattle.cycle_phases.proofs.phase.end_phase.Goals as goal

pub returns-else-cut : goal.returns-else-cut
returns-else-cut c = uncut c.args.parts.now.settings.watch c.args.parts.now.table (part_of c.args.phase) c.args.cut c.args.mid_line.now c.args.out.now c.if-cut.false
