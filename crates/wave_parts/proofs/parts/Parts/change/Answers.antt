use Rattle.std.proofs.Common.{◌∙◌, List, Err, map, ap, subst, sym, arith}
use Rattle.std.proofs.lemmas.Result.{err_from_is_err_and}
use Rattle.defs_soar.specs.Trimming.{numbers_of}
use Rattle.live_firings.specs.Living.{live_seen}
use Rattle.live_firings.specs.declared.live.Live.{Live}
use Rattle.soar_settle.specs.Renewal.{Renews}
use Rattle.wave_learning.specs.Entries.{entry_seen}
use Rattle.wave_parts.specs.Leaving.{HasLeft, IsMadeFit}
use Rattle.wave_parts.specs.declared.parts.Parts.{Parts as PartsKept}
use Rattle.wave_parts.proofs.CarryingLemmas.{counted_sound}
use Rattle.wave_parts.proofs.ChangedLemmas.{leave_stops_change, made_fit, retractions_stop_change, waves_stop_change, work_stops_change}
use Rattle.wave_parts.proofs.parts.Parts.change.Goals as goal

pub returns-in_err-waves-clause-answer : goal.returns-in_err-waves-clause-answer
returns-in_err-waves-clause-answer c =
    let p = err_from_is_err_and c.from_residual.result c.from_residual.ensures.1 in
    waves_stop_change c.args.self.now _ c.args.work.now c.from_residual.result c.in_err-waves.field-0.0 (p.1 ∙ ap Err p.2) c.requires.sound c.in_err-waves.ensures.count

pub returns-in_err-retractions-clause-answer : goal.returns-in_err-retractions-clause-answer
returns-in_err-retractions-clause-answer c =
    let p = err_from_is_err_and c.from_residual-in_err-retractions.result c.from_residual-in_err-retractions.ensures.1 in
    retractions_stop_change c.args.self.now _ c.args.work.now c.len.result c.from_residual-in_err-retractions.result c.in_err-retractions.field-0.0 (p.1 ∙ ap Err p.2) c.requires.sound
    c.in_ok-waves.ensures.count.1 c.len.ensures c.in_err-retractions.ensures.count

pub returns-in_err-worked-clause-answer : goal.returns-in_err-worked-clause-answer
returns-in_err-worked-clause-answer c =
    let p = err_from_is_err_and c.from_residual-in_err-worked.result c.from_residual-in_err-worked.ensures.1 in
    work_stops_change c.args.self.now c.work_out.new.self _ c.args.work.now c.from_residual-in_err-worked.result c.in_err-worked.field-0.0 (p.1 ∙ ap Err p.2)
    (record { waves = c.in_ok-waves.ensures.count.1; retractions = omega (arith, c.len.ensures, c.in_ok-retractions.ensures.count.1) }) c.in_err-worked.ensures.answer

pub leave-requires-clause-sound : goal.leave-requires-clause-sound
leave-requires-clause-sound c = c.in_ok-worked.ensures.worked.sound

pub leave-requires-clause-fit : goal.leave-requires-clause-fit
leave-requires-clause-fit c =
    let made = c.in_ok-made.made in
    subst (λ rows. IsMadeFit c.work_out.new.self rows (map live_seen made.live)) (sym c.as_slice-2.ensures)
    (made_fit c.args.self.now c.work_out.new.self (map entry_seen c.in_ok-worked.worked.entries) made c.in_ok-worked.ensures.worked
    (record { rows_are = c.in_ok-made.ensures.rows; live_are = c.in_ok-made.ensures.live }))

pub returns-in_err-left-clause-answer : goal.returns-in_err-left-clause-answer
returns-in_err-left-clause-answer c =
    let p = err_from_is_err_and c.from_residual-in_err-left.result c.from_residual-in_err-left.ensures.1 in
    leave_stops_change c.args.self.now c.work_out.new.self c.leave.new.self _ c.args.work.now c.in_ok-worked.worked c.in_ok-made.made c.from_residual-in_err-left.result c.in_err-left.field-0.0 (p.1 ∙ ap Err p.2)
    c.requires.sound (record { waves = c.in_ok-waves.ensures.count.1; retractions = omega (arith, c.len.ensures, c.in_ok-retractions.ensures.count.1) }) c.in_ok-worked.ensures.answer c.work_out.ensures.from
    (record { rows_are = c.in_ok-made.ensures.rows; live_are = c.in_ok-made.ensures.live })
    (subst (λ rows. Renews c.work_out.new.self.prefs c.leave.new.self.prefs (numbers_of (map live_seen c.args.work.now.retracted)) rows (Err c.in_err-left.field-0.0)) c.as_slice-2.ensures
    (subst (λ (ls : List Live). Renews c.work_out.new.self.prefs c.leave.new.self.prefs (numbers_of (map live_seen ls)) c.as_slice-2.result.now (Err c.in_err-left.field-0.0)) c.as_slice.ensures c.in_err-left.ensures.answer))

pub returns-clause-answer : goal.returns-clause-answer
returns-clause-answer c =
    let made = c.in_ok-made.made in
    let waves = c.in_ok-waves.waves in
    let retractions = c.in_ok-retractions.retractions in
    let has : HasLeft c.work_out.new.self c.leave.new.self c.args.work.now.retracted made.rows made.live c.in_ok-left.left = rw (c.as_slice.ensures, c.as_slice-2.ensures) at c.in_ok-left.ensures.answer in
    record {
      worked = c.work_out.new.self;
      entries = c.in_ok-worked.worked.entries;
      rows = made.rows;
      live = made.live;
      pending = c.requires.pending;
      few_waves = c.in_ok-waves.ensures.count.1;
      few_retractions = omega (arith, c.len.ensures, c.in_ok-retractions.ensures.count.1);
      answer = c.in_ok-worked.ensures.answer;
      from = c.work_out.ensures.from;
      out = c.in_ok-worked.ensures.worked;
      rows_are = c.in_ok-made.ensures.rows;
      live_are = c.in_ok-made.ensures.live;
      recorded_are = c.in_ok-made.ensures.recorded;
      told_are = c.in_ok-made.ensures.told;
      same = ap (λ (a : PartsKept). record a { waves = waves; retractions = retractions }) c.leave.ensures.same;
      waves_are = c.in_ok-waves.ensures.count.0;
      retractions_are = omega (arith, c.len.ensures, c.in_ok-retractions.ensures.count.0);
      program_is = has.program_is;
      renews = has.renews;
      lives = has.lives;
      added_is = has.added_is;
      spent_is = has.spent_is;
      sound = counted_sound c.leave.new.self waves retractions has.sound;
    }

pub returns-clause-settings : goal.returns-clause-settings
returns-clause-settings c = ap (λ (a : PartsKept). a.settings) c.leave.ensures.same ∙ ap (λ (a : PartsKept). a.settings) c.work_out.ensures.from.same

pub returns-clause-live : goal.returns-clause-live
returns-clause-live c = c.leave.ensures.live ∙ ap (λ (a : PartsKept). a.live.told) c.work_out.ensures.from.same
