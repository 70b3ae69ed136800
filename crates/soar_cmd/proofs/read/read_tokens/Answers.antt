use Rattle.std.proofs.Common.{ap, sym, subst, ◌∙◌}
use Rattle.soar_sym.specs.Words.{Texts}
use Rattle.soar_rule.specs.Productions.{ProductionOf}
use Rattle.defs_read.specs.Sayings.{sayings}
use Rattle.defs_soar.specs.Pending.{is_justification}
use Rattle.soar_lex.specs.Answers.{Grown}
use Rattle.soar_read.specs.Answers.{ReadAs}
use Rattle.soar_cmd.proofs.CheckedLemmas.{read_unlearned}
use Rattle.soar_cmd.proofs.ReadingLemmas.{fault_grown, fault_read, production_read}
use Rattle.soar_cmd.proofs.SpelledLemmas.{production_grown}
use Rattle.soar_cmd.proofs.read.read_tokens.Goals as goal

pub judge-requires-clause-unlearned : goal.judge-requires-clause-unlearned
judge-requires-clause-unlearned c =
    let old : Texts = c.args.table.now in
    let read : ReadAs old c.read_production.new.table c.args.tokens.now c.in-Ok.production = c.in-Ok.ensures.reading in
    ap (λ (p : ProductionOf). is_justification p.kind) read.means ∙ read_unlearned old (sayings old c.args.tokens.now) read.tree

pub returns-in-Ok-clause-reading : goal.returns-in-Ok-clause-reading
returns-in-Ok-clause-reading c = λ spelled are have.
    production_read c.args.table.now c.read_production.new.table c.args.tokens.now spelled c.in-Ok.production c.judge.result are have c.in-Ok.ensures.reading c.judge.ensures.judged

pub returns-in-Ok-clause-grown : goal.returns-in-Ok-clause-grown
returns-in-Ok-clause-grown c =
    let old : Texts = c.args.table.now in
    let read : ReadAs old c.read_production.new.table c.args.tokens.now c.in-Ok.production = c.in-Ok.ensures.reading in
    subst (Grown old) (sym read.words) (production_grown old (sayings old c.args.tokens.now) read.tree)

pub returns-in-Err-clause-reading : goal.returns-in-Err-clause-reading
returns-in-Err-clause-reading c = λ spelled are have.
    fault_read c.args.table.now c.read_production.new.table c.args.tokens.now spelled c.in-Err.fault c.of_reading.result are have c.in-Err.ensures.reading c.of_reading.ensures

pub returns-in-Err-clause-grown : goal.returns-in-Err-clause-grown
returns-in-Err-clause-grown c = fault_grown c.args.table.now c.read_production.new.table c.args.tokens.now c.in-Err.fault c.in-Err.ensures.reading
