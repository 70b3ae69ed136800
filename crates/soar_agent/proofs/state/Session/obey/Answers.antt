use Rattle.std.proofs.Common.{◌^◌, ◌<◌, Ok, Err, length, refl, subst, arith}
use Rattle.soar_sym.specs.Words.{Texts}
use Rattle.defs_run.specs.Whole.{whole_stage}
use Rattle.defs_run.specs.WholeReading.{read_whole}
use Rattle.defs_run.specs.Inputs.{refuses}
use Rattle.defs_run.specs.Runs.{after_reading, obeyed}
use Rattle.defs_run.specs.Sessions.{Session}
use Rattle.session_parts.specs.Answers.{refusal_of}
use Rattle.command_orders.specs.Asked.{order_seen}
use Rattle.soar_settle.specs.declared.stop.Stop.TheVariants as stop
use Rattle.defs_soar.specs.declared.limit.Which.TheVariants as which
use Rattle.soar_agent.specs.Carries.{response_by, response_to, with_table}
use Rattle.soar_agent.specs.Commands.{Outcomes}
use Rattle.soar_agent.specs.Outcomes.{HasOutcome}
use Rattle.soar_agent.specs.States.{session_of}
use Rattle.soar_agent.proofs.CommandLemmas.{reads_as, reads_outcome, reads_spent, responds_outcomes, spent_outcome}
use Rattle.soar_agent.proofs.SoundLemmas.{order_read, ready_read, remembers_read}
use Rattle.soar_agent.proofs.state.Session.obey.Goals as goal

pub carry_out-requires-clause-ready : goal.carry_out-requires-clause-ready
carry_out-requires-clause-ready g c =
    ready_read c.what_is_read_may_be_loaded.ensures.whole c.args.self.now c.table.result.now c.read_command.new.table c.args.c.now.text c.table.ensures.sound c.table.ensures.value c.in-Ok.ensures.reading.0 c.requires.ready

pub carry_out-requires-clause-lawful : goal.carry_out-requires-clause-lawful
carry_out-requires-clause-lawful g c =
    order_read c.what_is_read_may_be_loaded.ensures.whole c.args.self.now.agent.parts c.table.result.now c.read_command.new.table c.args.c.now.text (order_seen c.in-Ok.order) c.table.ensures.value c.requires.ready.1
    c.in-Ok.ensures.reading.0 c.in-Ok.ensures.reading.1

pub returns-in-Ok-clause-command : goal.returns-in-Ok-clause-command
unfolding obeyed
returns-in-Ok-clause-command g c = λ history remembers.
    let s : Session = session_of c.args.self.now history in
    let words : Texts = c.read_command.new.table in
    let small : length words < 2 ^ 32 = subst (λ (w : Texts). length w < 2 ^ 32) c.symbols.ensures (omega (arith, c.word_count-within.ensures)) in
    let response = response_to c.args.source.now c.args.c.now.line (order_seen c.in-Ok.order) (session_of (with_table words c.args.self.now) history) in
    subst (λ (w : Texts). Outcomes c.args.self.now.agent.parts.settings.watch c.args.self.now.agent.mid_line (after_reading whole_stage c.args.source.now c.args.c.now.line s (read_whole w c.args.c.now.text))
    c.carry_out.new.self c.args.out.now c.carry_out.new.out c.carry_out.result)
    c.table.ensures.value
    (reads_as c.args.self.now c.carry_out.new.self c.args.source.now c.args.c.now.line (read_whole c.table.result.now c.args.c.now.text) words (Ok (order_seen c.in-Ok.order)) history
    c.args.out.now c.carry_out.new.out c.carry_out.result c.in-Ok.ensures.reading.0 c.in-Ok.ensures.reading.1 small
    (responds_outcomes c.args.self.now.agent.parts.settings.watch c.args.self.now.agent.mid_line response c.carry_out.new.self c.args.out.now c.carry_out.new.out c.carry_out.result
    (c.carry_out.ensures.command history (remembers_read c.args.self.now.agent words history remembers))))

pub returns-in-Ok-clause-outcome : goal.returns-in-Ok-clause-outcome
returns-in-Ok-clause-outcome g c = λ history remembers.
    let words : Texts = c.read_command.new.table in
    let small : length words < 2 ^ 32 = subst (λ (w : Texts). length w < 2 ^ 32) c.symbols.ensures (omega (arith, c.word_count-within.ensures)) in
    let response = response_to c.args.source.now c.args.c.now.line (order_seen c.in-Ok.order) (session_of (with_table words c.args.self.now) history) in
    subst (λ (w : Texts). HasOutcome (session_of c.args.self.now history) (read_whole w c.args.c.now.text) c.carry_out.result) c.table.ensures.value
    (reads_outcome c.args.self.now c.carry_out.new.self (read_whole c.table.result.now c.args.c.now.text) words (Ok (order_seen c.in-Ok.order)) response c.args.self.now.agent.parts.settings.watch c.args.self.now.agent.mid_line
    history c.args.out.now c.carry_out.new.out c.carry_out.result c.in-Ok.ensures.reading.0 c.in-Ok.ensures.reading.1 small refl
    (c.carry_out.ensures.command history (remembers_read c.args.self.now.agent words history remembers)))

pub refuse_with-requires-clause-ready : goal.refuse_with-requires-clause-ready
refuse_with-requires-clause-ready g c =
    let read = rw c.in-Err-Refused.field-0-is at c.in-Err-Refused.ensures.reading in
    ready_read c.what_is_read_may_be_loaded.ensures.whole c.args.self.now c.table.result.now c.read_command.new.table c.args.c.now.text c.table.ensures.sound c.table.ensures.value read.0 c.requires.ready

pub refuse_with-requires-clause-known : goal.refuse_with-requires-clause-known
refuse_with-requires-clause-known g c = let read = rw c.in-Err-Refused.field-0-is at c.in-Err-Refused.ensures.reading in read.2

pub returns-in-Err-Refused-clause-command : goal.returns-in-Err-Refused-clause-command
unfolding obeyed
returns-in-Err-Refused-clause-command g c = λ history remembers.
    let s : Session = session_of c.args.self.now history in
    let words : Texts = c.read_command.new.table in
    let small : length words < 2 ^ 32 = subst (λ (w : Texts). length w < 2 ^ 32) c.symbols-in-Err-Refused.ensures (omega (arith, c.word_count-within-in-Err-Refused.ensures)) in
    let read = rw c.in-Err-Refused.field-0-is at c.in-Err-Refused.ensures.reading in
    let refusal = refusal_of words c.in-Err-Refused.number c.in-Err-Refused.shown in
    let response = response_by c.args.source.now c.args.c.now.line (session_of (with_table words c.args.self.now) history) (refuses refusal) in
    subst (λ (w : Texts). Outcomes c.args.self.now.agent.parts.settings.watch c.args.self.now.agent.mid_line (after_reading whole_stage c.args.source.now c.args.c.now.line s (read_whole w c.args.c.now.text))
    c.refuse_with.new.self c.args.out.now c.refuse_with.new.out c.refuse_with.result)
    c.table.ensures.value
    (reads_as c.args.self.now c.refuse_with.new.self c.args.source.now c.args.c.now.line (read_whole c.table.result.now c.args.c.now.text) words (Err refusal) history
    c.args.out.now c.refuse_with.new.out c.refuse_with.result read.0 read.1 small
    (responds_outcomes c.args.self.now.agent.parts.settings.watch c.args.self.now.agent.mid_line response c.refuse_with.new.self c.args.out.now c.refuse_with.new.out c.refuse_with.result
    (c.refuse_with.ensures.reply history (remembers_read c.args.self.now.agent words history remembers))))

pub returns-in-Err-Refused-clause-outcome : goal.returns-in-Err-Refused-clause-outcome
returns-in-Err-Refused-clause-outcome g c = λ history remembers.
    let words : Texts = c.read_command.new.table in
    let small : length words < 2 ^ 32 = subst (λ (w : Texts). length w < 2 ^ 32) c.symbols-in-Err-Refused.ensures (omega (arith, c.word_count-within-in-Err-Refused.ensures)) in
    let read = rw c.in-Err-Refused.field-0-is at c.in-Err-Refused.ensures.reading in
    let refusal = refusal_of words c.in-Err-Refused.number c.in-Err-Refused.shown in
    let response = response_by c.args.source.now c.args.c.now.line (session_of (with_table words c.args.self.now) history) (refuses refusal) in
    subst (λ (w : Texts). HasOutcome (session_of c.args.self.now history) (read_whole w c.args.c.now.text) c.refuse_with.result) c.table.ensures.value
    (reads_outcome c.args.self.now c.refuse_with.new.self (read_whole c.table.result.now c.args.c.now.text) words (Err refusal) response c.args.self.now.agent.parts.settings.watch c.args.self.now.agent.mid_line
    history c.args.out.now c.refuse_with.new.out c.refuse_with.result read.0 read.1 small refl
    (c.refuse_with.ensures.reply history (remembers_read c.args.self.now.agent words history remembers)))

pub returns-in-Err-WordsSpent-clause-command : goal.returns-in-Err-WordsSpent-clause-command
unfolding obeyed
returns-in-Err-WordsSpent-clause-command g c = λ history remembers.
    let s : Session = session_of c.args.self.now history in
    let spent = rw c.in-Err-WordsSpent.field-0-is at c.in-Err-WordsSpent.ensures.reading in
    subst (λ (w : Texts). Outcomes c.args.self.now.agent.parts.settings.watch c.args.self.now.agent.mid_line (after_reading whole_stage c.args.source.now c.args.c.now.line s (read_whole w c.args.c.now.text))
    (with_table c.read_command.new.table c.args.self.now) c.args.out.now c.args.out.now (Err (stop.Limit which.Words)))
    c.table.ensures.value
    (reads_spent c.args.self.now (with_table c.read_command.new.table c.args.self.now) c.args.source.now c.args.c.now.line (read_whole c.table.result.now c.args.c.now.text) history
    c.args.out.now spent refl)

pub returns-in-Err-WordsSpent-clause-outcome : goal.returns-in-Err-WordsSpent-clause-outcome
returns-in-Err-WordsSpent-clause-outcome g c = λ history remembers.
    let s : Session = session_of c.args.self.now history in
    let spent = rw c.in-Err-WordsSpent.field-0-is at c.in-Err-WordsSpent.ensures.reading in
    subst (λ (w : Texts). HasOutcome s (read_whole w c.args.c.now.text) (Err (stop.Limit which.Words))) c.table.ensures.value
    (spent_outcome s (read_whole c.table.result.now c.args.c.now.text) spent)
