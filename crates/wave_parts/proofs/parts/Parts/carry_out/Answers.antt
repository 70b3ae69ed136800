use Rattle.std.proofs.Common.{◌∙◌, Err, ap, sym, subst}
use Rattle.std.proofs.lemmas.Result.{err_from_is_err_and}
use Rattle.matching_laws.specs.Telling.{IsTold}
use Rattle.step_report.specs.Reports.{report_events}
use Rattle.trace_laws.specs.Events.{AreEventsKnown}
use Rattle.wave_parts.specs.Carrying.{CarriesOut}
use Rattle.wave_parts.specs.declared.parts.Parts.{Parts as PartsKept}
use Rattle.wave_parts.proofs.ForgettingLemmas.{carries_out_left, lawful_left, retaught_left}
use Rattle.wave_parts.proofs.parts.Parts.carry_out.Goals as goal

pub returns-in_err-done-clause-wave : goal.returns-in_err-done-clause-wave
returns-in_err-done-clause-wave c =
    let p = err_from_is_err_and c.from_residual.result c.from_residual.ensures.1 in
    subst (CarriesOut c.args.self.now c.carry_and_record.new.self c.args.work) (sym (p.1 ∙ ap Err p.2)) c.in_err-done.ensures.wave

pub returns-clause-wave : goal.returns-clause-wave
returns-clause-wave c = carries_out_left c.args.self.now c.carry_and_record.new.self c.forget.new.self c.args.work c.in_ok-done.done c.in_ok-forget.ensures.stands c.in_ok-done.ensures.wave

pub returns-clause-told : goal.returns-clause-told
returns-clause-told c =
    subst (λ (a : PartsKept). IsTold c.args.self.now.memory.elements a.memory.elements c.in_ok-done.done.report.settled.changes) (sym c.forget.ensures.same) c.in_ok-done.ensures.told

pub returns-clause-known : goal.returns-clause-known
returns-clause-known c = subst (λ (a : PartsKept). AreEventsKnown a.table (report_events c.in_ok-done.done.report)) (sym c.forget.ensures.same) c.in_ok-done.ensures.known

pub returns-clause-rules : goal.returns-clause-rules
returns-clause-rules c =
    retaught_left c.args.self.now c.carry_and_record.new.self c.forget.new.self c.forget.new.self.past c.in_ok-done.done.spent c.forget.ensures.same c.in_ok-done.ensures.rules

pub returns-clause-settings : goal.returns-clause-settings
returns-clause-settings c = ap (λ (a : PartsKept). a.settings) c.forget.ensures.same ∙ c.carry_and_record.ensures.settings

pub returns-clause-lawful : goal.returns-clause-lawful
returns-clause-lawful c = lawful_left c.carry_and_record.new.self c.forget.new.self c.in_ok-forget.ensures.stands c.in_ok-done.ensures.lawful

pub returns-clause-live : goal.returns-clause-live
returns-clause-live c = ap (λ (a : PartsKept). a.live.told) c.forget.ensures.same ∙ c.carry_and_record.ensures.live
