use Rattle.std.proofs.Common.{◌∙◌, List, ℕ, sym, subst}
use Rattle.defs_text.specs.Lexing.{Lexed, lexed}
use Rattle.defs_read.specs.Sayings.{AreTokensKnown}
use Rattle.defs_run.specs.WholeReading.{or_wrong}
use Rattle.soar_sym.specs.Words.{Texts}
use Rattle.soar_lex.specs.Answers.{CutWhole}
use Rattle.soar_cmd.specs.Answers.{IsJudged}
use Rattle.command_orders.specs.Asked.{form_seen, order_by, read_order}
use Rattle.soar_cmd.proofs.CutLemmas.{cut_known, cut_spelled, fault_grown, gained_grown}
use Rattle.soar_cmd.proofs.ReadingLemmas.{judged_read, order_grows, whole_read}
use Rattle.soar_cmd.proofs.read.read_form.Goals as goal

pub order_or_refusal-requires : goal.order_or_refusal-requires
order_or_refusal-requires c =
    subst (AreTokensKnown c.lex.new.table) (sym c.as_slice-in-Ok.ensures) (cut_known c.args.table.now c.lex.new.table (lexed c.args.text.now) c.in-Ok.tokens c.in-Ok.ensures)

pub returns-in-Ok-clause-reading : goal.returns-in-Ok-clause-reading
returns-in-Ok-clause-reading c =
    let old : Texts = c.args.table.now in
    let new : Texts = c.lex.new.table in
    let l : Lexed = lexed c.args.text.now in
    let cut : CutWhole old new l c.in-Ok.tokens = c.in-Ok.ensures in
    whole_read old new new (read_order (form_seen c.args.form) c.args.text.now) l c.order_or_refusal.result cut.fault cut.gained
    (judged_read new (or_wrong (order_by (form_seen c.args.form) new c.args.text.now l.tokens)) c.order_or_refusal.result
    (subst (λ (bytes : List ℕ). IsJudged new (or_wrong (order_by (form_seen c.args.form) new bytes l.tokens)) c.order_or_refusal.result) c.as_slice.ensures
    (c.order_or_refusal.ensures.judged l.tokens (c.as_slice-in-Ok.ensures ∙ cut.tokens_are) (cut_spelled old new l c.in-Ok.tokens cut))))

pub returns-in-Ok-clause-grown : goal.returns-in-Ok-clause-grown
returns-in-Ok-clause-grown c =
    let cut : CutWhole c.args.table.now c.lex.new.table (lexed c.args.text.now) c.in-Ok.tokens = c.in-Ok.ensures in
    gained_grown c.args.table.now c.lex.new.table (lexed c.args.text.now) cut.gained

pub returns-in-Err-clause-reading : goal.returns-in-Err-clause-reading
returns-in-Err-clause-reading c =
    c.of_lexing.ensures c.args.table.now c.lex.new.table (lexed c.args.text.now) (read_order (form_seen c.args.form) c.args.text.now) c.in-Err.ensures
    (order_grows (form_seen c.args.form) c.args.text.now)

pub returns-in-Err-clause-grown : goal.returns-in-Err-clause-grown
returns-in-Err-clause-grown c = fault_grown c.args.table.now c.lex.new.table (lexed c.args.text.now) c.in-Err.fault c.in-Err.ensures
