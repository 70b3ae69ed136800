use Rattle.std.proofs.Common.{map}
use Rattle.defs_soar.specs.Events.{shows, shows_no_longer}
use Rattle.step_report.proofs.SayingLemmas.{says_both}
use Rattle.step_report.proofs.output.say_outputs_at.Goals as goal

pub returns : goal.returns
returns c =
    says_both c.args.watch c.args.table.now (map shows_no_longer c.args.gone.now) (map shows c.args.new.now)
    c.args.mid_line.now c.say_each.new.mid_line c.say_each-2.new.mid_line c.args.out.now c.say_each.new.out c.say_each-2.new.out
    c.in_ok-say_each.ensures c.in_ok-say_each-2.ensures
