use Rattle.std.proofs.Common.{map}
use Rattle.defs_soar.specs.Events.{comes, goes}
use Rattle.step_report.proofs.KnownLemmas.{known_first, known_second}
use Rattle.step_report.proofs.SayingLemmas.{says_both}
use Rattle.step_report.proofs.settled.say_changes.Goals as goal

pub say_all_gone-requires : goal.say_all_gone-requires
say_all_gone-requires c = rw (c.as_slice.ensures) (known_first c.args.table.now (map goes c.args.changes.now.gone) (map comes c.args.changes.now.new) c.requires)

pub say_all_new-requires : goal.say_all_new-requires
say_all_new-requires c = rw (c.as_slice-2.ensures) (known_second c.args.table.now (map goes c.args.changes.now.gone) (map comes c.args.changes.now.new) c.requires)

pub returns : goal.returns
returns c =
    says_both c.args.watch c.args.table.now (map goes c.args.changes.now.gone) (map comes c.args.changes.now.new)
    c.args.mid_line.now c.say_all_gone.new.mid_line c.say_all_new.new.mid_line c.args.out.now c.say_all_gone.new.out c.say_all_new.new.out
    (rw (c.as_slice.ensures) at c.in_ok-say_all_gone.ensures) (rw (c.as_slice-2.ensures) at c.in_ok-say_all_new.ensures)
