use Rattle.std.proofs.Common.{◌∙◌, List, ℕ, Option, ap, subst}
use Rattle.soar_sym.specs.Words.{Texts}
use Rattle.defs_text.specs.Lexing.{Lexed}
use Rattle.defs_run.specs.Orders.{Order}
use Rattle.defs_run.specs.WholeReading.{or_wrong}
use Rattle.defs_run.specs.RandomReading.{random_lexed, random_order}
use Rattle.random_words.specs.Answers.{ReadWhole}
use Rattle.soar_cmd.specs.Answers.{IsJudged}
use Rattle.command_orders.specs.Asked.{numbers_order, order_by, read_order}
use Rattle.soar_cmd.proofs.CutLemmas.{fault_grown, gained_grown}
use Rattle.soar_cmd.proofs.RandomLemmas.{order_is}
use Rattle.soar_cmd.proofs.ReadingLemmas.{judged_read, order_grows, whole_read}
use Rattle.soar_cmd.proofs.read.read_random.Goals as goal

pub returns-in-Ok-clause-reading : goal.returns-in-Ok-clause-reading
returns-in-Ok-clause-reading c =
    let new : Texts = c.lex_random.new.table in
    let text : List ℕ = c.args.text.now in
    let l : Lexed = random_lexed 0 0 text in
    let read : ReadWhole c.args.table.now new text c.in-Ok.numbers = c.in-Ok.ensures in
    whole_read c.args.table.now new new (read_order (λ words. random_order) text) l c.random_or_refusal.result read.fault read.gained
    (judged_read new (or_wrong (order_by (λ words. random_order) new text l.tokens)) c.random_or_refusal.result
    (subst (λ (order : Option Order). IsJudged new (or_wrong order) c.random_or_refusal.result) (ap numbers_order (c.as_slice.ensures ∙ read.numbers_are) ∙ order_is text l.tokens)
    (c.random_or_refusal.ensures.judged new)))

pub returns-in-Ok-clause-known : goal.returns-in-Ok-clause-known
returns-in-Ok-clause-known c = c.random_or_refusal.ensures.known c.lex_random.new.table

pub returns-in-Ok-clause-grown : goal.returns-in-Ok-clause-grown
returns-in-Ok-clause-grown c =
    let read : ReadWhole c.args.table.now c.lex_random.new.table c.args.text.now c.in-Ok.numbers = c.in-Ok.ensures in
    gained_grown c.args.table.now c.lex_random.new.table (random_lexed 0 0 c.args.text.now) read.gained

pub returns-in-Err-clause-reading : goal.returns-in-Err-clause-reading
returns-in-Err-clause-reading c =
    c.of_lexing.ensures c.args.table.now c.lex_random.new.table (random_lexed 0 0 c.args.text.now) (read_order (λ words. random_order) c.args.text.now) c.in-Err.ensures
    (order_grows (λ words. random_order) c.args.text.now)

pub returns-in-Err-clause-grown : goal.returns-in-Err-clause-grown
returns-in-Err-clause-grown c = fault_grown c.args.table.now c.lex_random.new.table (random_lexed 0 0 c.args.text.now) c.in-Err.fault c.in-Err.ensures
