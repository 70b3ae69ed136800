use Rattle.std.proofs.Common.{◌∙◌, Err, Ok, map, ap, sym, subst}
use Rattle.std.proofs.lemmas.Result.{err_from_is_err_and}
use Rattle.defs_match.specs.Rules.{rule_seen}
use Rattle.live_firings.specs.Living.{live_seen}
use Rattle.pending_work.specs.Firables.{AreBound}
use Rattle.soar_settle.specs.Known.{AreInstancesKnown}
use Rattle.decision_parts.specs.Carrying.{CarriesOut, IsPendingIn}
use Rattle.decision_parts.specs.Lawful.{IsOfLawful}
use Rattle.decision_parts.specs.Seen.{AreLiveKnown, IsSound}
use Rattle.decision_parts.specs.Parts.{Parts as PartsKept}
use Rattle.step_report.specs.Reports.{report_events}
use Rattle.step_report.specs.Saying.{SaysEvents}
use Rattle.cycle_parts.specs.Waving.{is_proposing}
use Rattle.cycle_parts.proofs.ToldLemmas.{told_carries, told_lawful, told_sound}
use Rattle.cycle_parts.proofs.WavingLemmas.{rests, waves, waves_not}
use Rattle.cycle_parts.proofs.engine.Engine.wave.Goals as goal

pub returns-then-is_nothing-clause-wave : goal.returns-then-is_nothing-clause-wave
returns-then-is_nothing-clause-wave g c =
    rests (is_proposing c.args.phase) c.args.self.now.parts c.pending.new.self.parts c.args.mid_line.now c.args.out.now (sym c.in_ok-work.ensures.none ∙ sym c.if-is_nothing.ensures) c.in_ok-work.ensures.parts

pub returns-then-is_nothing-clause-sound : goal.returns-then-is_nothing-clause-sound
returns-then-is_nothing-clause-sound g c = subst IsSound (sym c.in_ok-work.ensures.parts) (told_sound c.args.self.now.parts c.pending.new.self.parts.live.told c.requires.sound)

pub returns-then-is_nothing-clause-lawful : goal.returns-then-is_nothing-clause-lawful
returns-then-is_nothing-clause-lawful g c = subst IsOfLawful (sym c.in_ok-work.ensures.parts) (told_lawful c.args.self.now.parts c.pending.new.self.parts.live.told c.requires.lawful)

pub carry_out-requires-clause-sound : goal.carry_out-requires-clause-sound
carry_out-requires-clause-sound g c = subst IsSound (sym c.in_ok-work.ensures.parts) (told_sound c.args.self.now.parts c.pending.new.self.parts.live.told c.requires.sound)

pub carry_out-requires-clause-lawful : goal.carry_out-requires-clause-lawful
carry_out-requires-clause-lawful g c = subst IsOfLawful (sym c.in_ok-work.ensures.parts) (told_lawful c.args.self.now.parts c.pending.new.self.parts.live.told c.requires.lawful)

pub carry_out-requires-clause-bound : goal.carry_out-requires-clause-bound
carry_out-requires-clause-bound g c = subst (λ (a : PartsKept). AreBound (map rule_seen a.rules) c.in_ok-work.work.fired) (sym c.in_ok-work.ensures.parts) c.in_ok-work.ensures.bound

pub carry_out-requires-clause-known : goal.carry_out-requires-clause-known
carry_out-requires-clause-known g c = subst (λ (a : PartsKept). AreInstancesKnown a.table c.in_ok-work.work.fired) (sym c.in_ok-work.ensures.parts) c.in_ok-work.ensures.known

pub carry_out-requires-clause-names : goal.carry_out-requires-clause-names
carry_out-requires-clause-names g c = subst (λ (a : PartsKept). AreLiveKnown a.table (map live_seen c.in_ok-work.work.retracted)) (sym c.in_ok-work.ensures.parts) c.in_ok-work.ensures.names

pub carry_out-requires-clause-pending : goal.carry_out-requires-clause-pending
carry_out-requires-clause-pending g c =
    subst (λ a. IsPendingIn a c.in_ok-work.work) (sym c.in_ok-work.ensures.parts) (is_proposing c.args.phase, c.in_ok-work.ensures.work)

pub returns-in_err-done-clause-wave : goal.returns-in_err-done-clause-wave
returns-in_err-done-clause-wave g c =
    let old = c.args.self.now.parts in
    let new = c.carry_out.new.self.parts in
    let work = c.in_ok-work.work in
    let p = err_from_is_err_and c.from_residual-in_err-done.result c.from_residual-in_err-done.ensures.1 in
    let carries = told_carries old c.pending.new.self.parts.live.told new work (Err c.in_err-done.field-0.0) (subst (λ a. CarriesOut a new work (Err c.in_err-done.field-0.0)) c.in_ok-work.ensures.parts c.in_err-done.ensures.wave) in
    rw (p.1, p.2)
    (waves_not old.settings.watch (is_proposing c.args.phase) old new c.args.mid_line.now c.args.out.now work c.in_err-done.field-0.0
    (sym c.in_ok-work.ensures.none ∙ sym c.if-is_nothing.ensures) c.in_ok-work.ensures.work carries)

pub returns-clause-wave : goal.returns-clause-wave
returns-clause-wave g c =
    let old = c.args.self.now.parts in
    let new = c.carry_out.new.self.parts in
    let work = c.in_ok-work.work in
    let done = c.in_ok-done.done in
    let carries = told_carries old c.pending.new.self.parts.live.told new work (Ok done) (subst (λ a. CarriesOut a new work (Ok done)) c.in_ok-work.ensures.parts c.in_ok-done.ensures.wave) in
    let settings = c.carry_out.ensures.settings ∙ ap (λ (a : PartsKept). a.settings) c.in_ok-work.ensures.parts in
    let says = subst (λ kept. SaysEvents kept.watch new.table (report_events done.report) c.args.mid_line.now c.args.out.now c.say_report.new.mid_line c.say_report.new.out) settings c.in_ok-say_report.ensures in
    rw (c.outcome_of.ensures)
    (waves old.settings.watch (is_proposing c.args.phase) old new c.args.mid_line.now c.say_report.new.mid_line c.args.out.now c.say_report.new.out work done
    (sym c.in_ok-work.ensures.none ∙ sym c.if-is_nothing.ensures) c.in_ok-work.ensures.work carries says)
