use Rattle.std.proofs.Common.{get_or}
use Rattle.defs_soar.specs.Events.{comes}
use Rattle.step_report.proofs.Blanks.{at_place, no_element}
use Rattle.step_report.proofs.SayingLemmas.{says_mapped, says_none, says_one}
use Rattle.step_report.proofs.KnownLemmas.{known_in_map}
use Rattle.step_report.proofs.settled.say_all_new.Goals as goal

pub say_new-requires : goal.say_new-requires
say_new-requires c = known_in_map c.args.table.now comes c.args.elements.now c.elements.element-index (get_or c.args.elements.now c.elements.element-index no_element) c.elements-test.true (at_place c.args.elements.now c.elements.element-index no_element c.elements-test.true) c.requires

pub elements-init : goal.elements-init
elements-init c = says_none c.args.watch c.args.table.now c.args.mid_line.now c.args.out.now

pub elements-preserved : goal.elements-preserved
elements-preserved c =
    says_mapped c.args.watch c.args.table.now c.args.elements.now c.elements.element-index (get_or c.args.elements.now c.elements.element-index no_element) c.elements-test.true (at_place c.args.elements.now c.elements.element-index no_element c.elements-test.true)
    c.args.mid_line.now c.elements.mid_line c.say_new.new.mid_line c.args.out.now c.elements.out c.say_new.new.out comes
    c.elements.invariant (says_one c.args.watch c.args.table.now (comes (get_or c.args.elements.now c.elements.element-index no_element)) c.elements.mid_line c.say_new.new.mid_line c.elements.out c.say_new.new.out c.in_ok-say_new.ensures.ok)
