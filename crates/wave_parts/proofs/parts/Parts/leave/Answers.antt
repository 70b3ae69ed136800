use Rattle.std.proofs.Common.{◌∙◌, Err, ap}
use Rattle.std.proofs.lemmas.Result.{err_from_is_err_and}
use Rattle.wave_parts.specs.declared.parts.Parts.{Parts as PartsKept}
use Rattle.wave_parts.proofs.LeavingLemmas.{leaves_not, leaves_so}
use Rattle.wave_parts.proofs.parts.Parts.leave.Goals as goal

pub renew-requires : goal.renew-requires
renew-requires c = c.drop_spent.ensures.sound.few_rows

pub returns-in_err-added-clause-answer : goal.returns-in_err-added-clause-answer
returns-in_err-added-clause-answer c =
    let p = err_from_is_err_and c.from_residual-in_err-added.result c.from_residual-in_err-added.ensures.1 in
    leaves_not c.args.self.now c.drop_spent.new.self c.renew.new.prefs c.as_slice-gone.result.now c.args.retracted.now c.args.live c.args.rows.now c.from_residual-in_err-added.result c.in_err-added.field-0.0 (p.1 ∙ ap Err p.2)
    (record { same = c.drop_spent.ensures.same }) (c.as_slice-gone.ensures ∙ c.in_ok-numbers.ensures) c.in_err-added.ensures.renewed

pub returns-clause-answer : goal.returns-clause-answer
returns-clause-answer c =
    leaves_so c.rows_fit_decisions.ensures.wave c.args.self.now c.drop_spent.new.self c.renew.new.prefs c.renew_live.new.live c.as_slice-gone.result.now c.args.retracted.now c.args.live c.args.rows.now
    (record { added = c.in_ok-added.added; spent = c.in_ok-spent.spent }) c.drop_spent.ensures.sound c.requires.fit (record { same = c.drop_spent.ensures.same })
    (c.as_slice-gone.ensures ∙ c.in_ok-numbers.ensures) c.in_ok-spent.ensures.program c.in_ok-added.ensures.renewed c.in_ok-renew_live.ensures.list c.in_ok-added.ensures.added c.in_ok-spent.ensures.numbers

pub returns-clause-live : goal.returns-clause-live
returns-clause-live c = c.renew_live.ensures.told ∙ ap (λ (a : PartsKept). a.live.told) c.drop_spent.ensures.same
