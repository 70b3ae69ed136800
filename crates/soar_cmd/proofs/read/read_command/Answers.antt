use Rattle.std.proofs.Common.{◌∙◌, Err, ap, sym, refl, subst}
use Rattle.defs_run.specs.Commands.{first_run}
use Rattle.defs_run.specs.Orders.{unknown_command}
use Rattle.defs_run.specs.Stages.{Reading}
use Rattle.soar_lex.proofs.WordLemmas.{grown_same}
use Rattle.soar_cmd.specs.Answers.{IsCommandRead}
use Rattle.command_orders.specs.Asked.{form_seen}
use Rattle.soar_cmd.proofs.CommandLemmas.{file_read_by, form_read_by, production_read_by, random_read_by, unknown_read_by}
use Rattle.soar_cmd.proofs.read.read_command.Goals as goal

pub returns-then-is_word-clause-reading : goal.returns-then-is_word-clause-reading
returns-then-is_word-clause-reading c =
    subst (λ (r : Reading). IsCommandRead c.read_sp.new.table r c.read_sp.result)
    (sym (production_read_by c.args.table.now c.args.c.now.text c.first_run-word.result.now (c.first_run-word.ensures ∙ ap first_run c.as_slice.ensures) c.if-is_word.ensures))
    c.read_sp.ensures.reading

pub returns-then-is_word-2-clause-reading : goal.returns-then-is_word-2-clause-reading
returns-then-is_word-2-clause-reading c =
    subst (λ (r : Reading). IsCommandRead c.args.table.now r c.read_source.result)
    (sym (file_read_by c.args.table.now c.args.c.now.text c.first_run-word.result.now (c.first_run-word.ensures ∙ ap first_run c.as_slice.ensures)
    c.if-is_word.ensures c.if-is_word-2.ensures)) c.read_source.ensures.reading

pub returns-then-is_word-2-clause-grown : goal.returns-then-is_word-2-clause-grown
returns-then-is_word-2-clause-grown c = grown_same c.args.table.now

pub returns-then-is_word-3-clause-reading : goal.returns-then-is_word-3-clause-reading
returns-then-is_word-3-clause-reading c =
    subst (λ (r : Reading). IsCommandRead c.read_random.new.table r c.read_random.result)
    (sym (random_read_by c.args.table.now c.args.c.now.text c.first_run-word.result.now (c.first_run-word.ensures ∙ ap first_run c.as_slice.ensures)
    c.if-is_word.ensures c.if-is_word-2.ensures c.if-is_word-3.ensures)) c.read_random.ensures.reading

pub returns-in-Some-clause-reading : goal.returns-in-Some-clause-reading
returns-in-Some-clause-reading c =
    subst (λ (r : Reading). IsCommandRead c.read_form.new.table r c.read_form.result)
    (sym (form_read_by c.args.table.now c.args.c.now.text c.first_run-word.result.now (form_seen c.in-Some.form) (c.first_run-word.ensures ∙ ap first_run c.as_slice.ensures)
    c.if-is_word.ensures c.if-is_word-2.ensures c.if-is_word-3.ensures c.in-Some.ensures)) c.read_form.ensures.reading

pub returns-in-None-clause-reading : goal.returns-in-None-clause-reading
returns-in-None-clause-reading c =
    subst (λ (r : Reading). IsCommandRead c.args.table.now r (Err c.refused.result))
    (sym (unknown_read_by c.args.table.now c.args.c.now.text c.first_run-word.result.now (c.first_run-word.ensures ∙ ap first_run c.as_slice.ensures)
    c.if-is_word.ensures c.if-is_word-2.ensures c.if-is_word-3.ensures c.in-None.ensures))
    (subst (λ f. IsCommandRead c.args.table.now (record { words = c.args.table.now; order = Err unknown_command }) (Err f)) (sym c.refused.ensures) (refl, refl, tt))

pub returns-in-None-clause-grown : goal.returns-in-None-clause-grown
returns-in-None-clause-grown c = grown_same c.args.table.now
