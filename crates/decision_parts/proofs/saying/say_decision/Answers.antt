use Rattle.std.proofs.Common.{◌∷◌, [], ◌++◌, map}
use Rattle.defs_soar.specs.Events.{comes, goes}
use Rattle.defs_soar.specs.Resettling.{removal_events}
use Rattle.step_report.proofs.KnownLemmas.{known_second}
use Rattle.step_report.specs.Reports.{removed_seen}
use Rattle.decision_parts.specs.Saying.{line_event, opening_events}
use Rattle.decision_parts.proofs.SayingLemmas.{says_behind}
use Rattle.decision_parts.proofs.saying.say_decision.Goals as goal

pub say_changes-requires : goal.say_changes-requires
say_changes-requires c = known_second c.args.table.now (removal_events (map removed_seen c.args.settled.now.removed)) _ c.requires.known

pub returns : goal.returns
returns c =
    let words = c.args.table.now in
    let changes = map goes c.args.settled.now.changes.gone ++ map comes c.args.settled.now.changes.new in
    says_behind c.says_in_turn.ensures c.args.watch words (opening_events c.args.settled.now) (line_event c.args.line ∷ changes) c.args.mid_line.now c.open_decision.new.mid_line c.say_changes.new.mid_line
    c.args.out.now c.open_decision.new.out c.say_changes.new.out c.say_changes.result c.in_ok-open_decision.ensures
    (says_behind c.says_in_turn.ensures c.args.watch words (line_event c.args.line ∷ []) changes c.open_decision.new.mid_line c.say_line.new.mid_line c.say_changes.new.mid_line
    c.open_decision.new.out c.say_line.new.out c.say_changes.new.out c.say_changes.result c.in_ok-say_line.ensures c.say_changes.ensures)
