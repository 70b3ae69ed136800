use Rattle.std.proofs.Common.{◌+◌, ◌∙◌, Err, drop, get_or, sym, subst}
use Rattle.std.proofs.lemmas.List.{at_drop_more}
use Rattle.std.proofs.lemmas.Result.{err_from_is_err_and}
use Rattle.defs_soar.specs.Preferences.{with_rows}
use Rattle.soar_settle.specs.Renewal.{AddsAll}
use Rattle.soar_settle.proofs.RenewalLemmas.{no_row, stops_at_one}
use Rattle.soar_settle.proofs.renewal.add_all.Goals as goal

pub returns-in_err-add_noting-clause-answer : goal.returns-in_err-add_noting-clause-answer
returns-in_err-add_noting-clause-answer c =
    let made = c.args.made.now in
    let p = err_from_is_err_and c.from_residual.result c.from_residual.ensures.1 in
    let answer = AddsAll c.args.prefs.now c.add_noting.new.prefs made in
    subst answer (sym p.1) (subst (λ e. answer (Err e)) (sym p.2)
    (stops_at_one c.args.prefs.now c.made.prefs c.add_noting.new.prefs (get_or made c.made.row-index no_row) (drop (c.made.row-index + 1) made) made c.in_err-add_noting.field-0.0
    c.made.invariant.limit (sym (at_drop_more (with_rows c.made.prefs.rows) made c.made.row-index no_row c.made-test.true) ∙ c.made.invariant.rows) c.in_err-add_noting.ensures.answer))
