use Rattle.std.proofs.Common.{◌≤◌, length, arith}
use Rattle.defs_text.specs.Lexing.{Lexed, lexed}
use Rattle.defs_run.specs.WholeReading.{checked, read_tokens}
use Rattle.soar_sym.specs.Words.{Texts}
use Rattle.soar_lex.specs.Answers.{CutWhole}
use Rattle.soar_lex.proofs.WordLemmas.{grown_then}
use Rattle.soar_cmd.proofs.CutLemmas.{cut_few, cut_known, cut_spelled, fault_grown, gained_grown}
use Rattle.soar_cmd.proofs.ReadingLemmas.{tokens_grow, whole_read}
use Rattle.soar_cmd.proofs.read.read_sp.Goals as goal

pub read_tokens-requires-clause-few : goal.read_tokens-requires-clause-few
read_tokens-requires-clause-few c =
    let few : length c.in-Ok.tokens ≤ length c.args.text.now = cut_few c.args.table.now c.lex.new.table c.args.text.now c.in-Ok.tokens c.in-Ok.ensures in
    omega (arith, few, c.requires)

pub read_tokens-requires-clause-words : goal.read_tokens-requires-clause-words
read_tokens-requires-clause-words c = cut_known c.args.table.now c.lex.new.table (lexed c.args.text.now) c.in-Ok.tokens c.in-Ok.ensures

pub returns-in-Ok-clause-reading : goal.returns-in-Ok-clause-reading
returns-in-Ok-clause-reading c =
    let old : Texts = c.args.table.now in
    let between : Texts = c.lex.new.table in
    let l : Lexed = lexed c.args.text.now in
    let cut : CutWhole old between l c.in-Ok.tokens = c.in-Ok.ensures in
    whole_read old between c.read_tokens.new.table (read_tokens checked) l c.read_tokens.result cut.fault cut.gained
    (c.read_tokens.ensures.reading l.tokens cut.tokens_are (cut_spelled old between l c.in-Ok.tokens cut))

pub returns-in-Ok-clause-grown : goal.returns-in-Ok-clause-grown
returns-in-Ok-clause-grown c =
    let cut : CutWhole c.args.table.now c.lex.new.table (lexed c.args.text.now) c.in-Ok.tokens = c.in-Ok.ensures in
    grown_then c.args.table.now c.lex.new.table c.read_tokens.new.table (gained_grown c.args.table.now c.lex.new.table (lexed c.args.text.now) cut.gained) c.read_tokens.ensures.grown

pub returns-in-Err-clause-reading : goal.returns-in-Err-clause-reading
returns-in-Err-clause-reading c = c.of_lexing.ensures c.args.table.now c.lex.new.table (lexed c.args.text.now) (read_tokens checked) c.in-Err.ensures (tokens_grow checked)

pub returns-in-Err-clause-grown : goal.returns-in-Err-clause-grown
returns-in-Err-clause-grown c = fault_grown c.args.table.now c.lex.new.table (lexed c.args.text.now) c.in-Err.fault c.in-Err.ensures
