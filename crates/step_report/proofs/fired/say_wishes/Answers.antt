use Rattle.std.proofs.Common.{get_or}
use Rattle.wave_entries.specs.Entries.{held_event}
use Rattle.step_report.proofs.Blanks.{at_place, no_wish}
use Rattle.step_report.proofs.SayingLemmas.{says_mapped, says_none, says_one}
use Rattle.step_report.proofs.KnownLemmas.{known_in_map}
use Rattle.step_report.proofs.fired.say_wishes.Goals as goal

pub say_wish-requires : goal.say_wish-requires
say_wish-requires c = known_in_map c.args.table.now held_event c.args.wishes.now c.wishes.held-index (get_or c.args.wishes.now c.wishes.held-index no_wish) c.wishes-test.true (at_place c.args.wishes.now c.wishes.held-index no_wish c.wishes-test.true) c.requires

pub wishes-init : goal.wishes-init
wishes-init c = says_none c.args.watch c.args.table.now c.args.mid_line.now c.args.out.now

pub wishes-preserved : goal.wishes-preserved
wishes-preserved c =
    says_mapped c.args.watch c.args.table.now c.args.wishes.now c.wishes.held-index (get_or c.args.wishes.now c.wishes.held-index no_wish) c.wishes-test.true (at_place c.args.wishes.now c.wishes.held-index no_wish c.wishes-test.true)
    c.args.mid_line.now c.wishes.mid_line c.say_wish.new.mid_line c.args.out.now c.wishes.out c.say_wish.new.out held_event
    c.wishes.invariant (says_one c.args.watch c.args.table.now (held_event (get_or c.args.wishes.now c.wishes.held-index no_wish)) c.wishes.mid_line c.say_wish.new.mid_line c.wishes.out c.say_wish.new.out c.in_ok-say_wish.ensures.ok)
