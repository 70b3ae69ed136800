use Rattle.soar_edge.specs.Cutting.{whole}
use Rattle.command_runs.proofs.CutterLemmas.{ended_left, unfinished_left, whole_left, whole_short}
use Rattle.command_runs.proofs.StepLemmas.{last_breaks, last_refused, took_whole, whole_breaks}
use Rattle.command_runs.proofs.turn.next_turn.Goals as goal

pub obey_command-requires-clause-short : goal.obey_command-requires-clause-short
obey_command-requires-clause-short g c =
    whole_short c.args.cutter.now c.next_command-cut.new.self _ c.in-Ok-Whole.command c.in-Ok-Whole.field-0-is c.in-Ok-Whole.ensures.cut

pub returns-in-Ok-clause-turn : goal.returns-in-Ok-clause-turn
returns-in-Ok-clause-turn g c = λ stock told fails comes r at ends more follows.
    let first = whole_left c.args.cutter.now c.next_command-cut.new.self _ c.in-Ok-Whole.command c.in-Ok-Whole.field-0-is c.in-Ok-Whole.ensures.cut ends more follows in
    took_whole _ _ _ _ fails _ stock _ _ _ _ _ r _ first (c.in-Ok.ensures.step stock told fails comes r at)

pub returns-in-Ok-clause-takes : goal.returns-in-Ok-clause-takes
returns-in-Ok-clause-takes g c =
    (whole c.in-Ok-Whole.command.line c.in-Ok-Whole.command.text, whole_left c.args.cutter.now c.next_command-cut.new.self _ c.in-Ok-Whole.command c.in-Ok-Whole.field-0-is c.in-Ok-Whole.ensures.cut)

pub returns-in-Ok-Whole-clause-turn : goal.returns-in-Ok-Whole-clause-turn
returns-in-Ok-Whole-clause-turn g c = λ stock told fails comes r at ends more follows.
    let first = whole_left c.args.cutter.now c.next_command-cut.new.self _ c.in-Ok-Whole.command c.in-Ok-Whole.field-0-is c.in-Ok-Whole.ensures.cut ends more follows in
    whole_breaks _ _ _ fails _ stock _ _ _ _ _ r _ first (c.in-Err-obey_command.ensures.step stock told fails comes r at)

pub returns-in-Ok-refuse-clause-turn : goal.returns-in-Ok-refuse-clause-turn
returns-in-Ok-refuse-clause-turn g c = λ stock told fails comes r at ends more follows.
    let last = unfinished_left c.args.cutter.now c.next_command-cut.new.self _ c.in-Ok-Unfinished.line c.in-Ok-Unfinished.field-0-is c.in-Ok-Unfinished.ensures.cut in
    last_refused _ _ _ _ fails _ stock _ _ _ _ _ r last.0 (ended_left c.args.cutter.now _ ends more last.0 last.1 follows) (c.in-Ok-refuse.ensures.refused fails r at)

pub returns-in-Ok-Unfinished-clause-turn : goal.returns-in-Ok-Unfinished-clause-turn
returns-in-Ok-Unfinished-clause-turn g c = λ stock told fails comes r at ends more follows.
    let last = unfinished_left c.args.cutter.now c.next_command-cut.new.self _ c.in-Ok-Unfinished.line c.in-Ok-Unfinished.field-0-is c.in-Ok-Unfinished.ensures.cut in
    last_breaks _ _ _ fails _ stock _ _ _ r _ (ended_left c.args.cutter.now _ ends more last.0 last.1 follows) (c.in-Err-refuse.ensures.refused fails r at)

pub returns-in-Ok-Unfinished-clause-shelf : goal.returns-in-Ok-Unfinished-clause-shelf
returns-in-Ok-Unfinished-clause-shelf g c = c.in-Err-refuse.ensures.shelf _
