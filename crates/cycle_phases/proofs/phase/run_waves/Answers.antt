use Rattle.std.proofs.Common.{◌-◌, ◌∙◌, Result, Ok, Err, OnOk, ap, refl, sym, subst}
use Rattle.std.proofs.lemmas.Result.{err_from_is_err_and}
use Rattle.cycle_parts.specs.Lawful.{IsOfLawful}
use Rattle.cycle_parts.specs.Seen.{IsSound}
use Rattle.cycle_parts.specs.Waving.{is_proposing}
use Rattle.cycle_parts.specs.declared.waving.Waved.TheVariants as waved
use Rattle.cycle_parts.proofs.ToldLemmas.{told_lawful, told_sound}
use Rattle.cycle_phases.specs.Courses.{phased}
use Rattle.cycle_phases.specs.Going.{GoesPhase}
use Rattle.cycle_phases.proofs.GoingLemmas.{goes, halts, is_over, rests, some_left, starts, stops, waves_at}
use Rattle.cycle_phases.proofs.phase.run_waves.Goals as goal

pub waves-init : goal.waves-init
waves-init g c = record {
  sound = c.requires.sound;
  lawful = c.requires.lawful;
  bond = c.requires.bond;
  settings = refl;
  going = λ s stands. starts c.args.engine.now.parts.settings.watch (is_proposing c.args.phase) c.args.engine.now.parts s c.args.mid_line.now c.args.out.now stands;
}

pub returns-in_err-wave-clause-waves : goal.returns-in_err-wave-clause-waves
returns-in_err-wave-clause-waves g c = λ s stands.
    let watch = c.args.engine.now.parts.settings.watch in
    let on = is_proposing c.args.phase in
    let mid = c.args.mid_line.now in
    let before = c.args.out.now in
    let left = some_left watch on c.waves.engine.parts c.waves.left s mid c.waves.mid_line before c.waves.out c.waves-test.true (c.waves.invariant.going s stands) in
    let p = err_from_is_err_and c.from_residual.result c.from_residual.ensures.1 in
    subst (GoesPhase watch mid (phased c.args.phase s) c.wave.new.self.parts c.wave.new.mid_line before c.wave.new.out) (sym (p.1 ∙ ap Err p.2))
    (stops watch on c.waves.engine.parts c.wave.new.self.parts (c.waves.left - 1) s mid c.waves.mid_line c.wave.new.mid_line before c.waves.out c.wave.new.out c.in_err-wave.field-0.0 left
    (waves_at c.waves.engine.parts.settings c.args.engine.now.parts.settings c.waves.invariant.settings on left.course.agent c.waves.engine.parts c.wave.new.self.parts c.waves.mid_line c.wave.new.mid_line
    c.waves.out c.wave.new.out (Err c.in_err-wave.field-0.0) (Err c.in_err-wave.field-0.0) refl (c.in_err-wave.ensures.wave left.course.agent left.went.stands)))

pub waves-preserved : goal.waves-preserved
waves-preserved g c = record {
  sound = c.in_ok-wave.ensures.sound;
  lawful = c.in_ok-wave.ensures.lawful;
  bond = c.in_ok-wave.ensures.bond;
  settings = c.in_ok-wave.ensures.settings ∙ c.waves.invariant.settings;
  going = λ s stands.
      let watch = c.args.engine.now.parts.settings.watch in
      let on = is_proposing c.args.phase in
      let mid = c.args.mid_line.now in
      let before = c.args.out.now in
      let left = some_left watch on c.waves.engine.parts c.waves.left s mid c.waves.mid_line before c.waves.out c.waves-test.true (c.waves.invariant.going s stands) in
      goes watch on c.waves.engine.parts c.wave.new.self.parts (c.waves.left - 1) s mid c.waves.mid_line c.wave.new.mid_line before c.waves.out c.wave.new.out left
      (waves_at c.waves.engine.parts.settings c.args.engine.now.parts.settings c.waves.invariant.settings on left.course.agent c.waves.engine.parts c.wave.new.self.parts c.waves.mid_line c.wave.new.mid_line
      c.waves.out c.wave.new.out (Ok c.in_ok-wave.field-0) (Ok waved.Went) (ap Ok c.in-Went.is) (c.in_ok-wave.ensures.wave left.course.agent left.went.stands));
}

pub returns-in-Rest-clause-waves : goal.returns-in-Rest-clause-waves
returns-in-Rest-clause-waves g c = λ s stands.
    let watch = c.args.engine.now.parts.settings.watch in
    let on = is_proposing c.args.phase in
    let mid = c.args.mid_line.now in
    let before = c.args.out.now in
    let left = some_left watch on c.waves.engine.parts c.waves.left s mid c.waves.mid_line before c.waves.out c.waves-test.true (c.waves.invariant.going s stands) in
    rests watch on c.waves.engine.parts c.wave.new.self.parts (c.waves.left - 1) s mid c.waves.mid_line c.wave.new.mid_line before c.waves.out c.wave.new.out left
    (waves_at c.waves.engine.parts.settings c.args.engine.now.parts.settings c.waves.invariant.settings on left.course.agent c.waves.engine.parts c.wave.new.self.parts c.waves.mid_line c.wave.new.mid_line
    c.waves.out c.wave.new.out (Ok c.in_ok-wave.field-0) (Ok waved.Rest) (ap Ok c.in-Rest.is) (c.in_ok-wave.ensures.wave left.course.agent left.went.stands))

pub returns-in-Halted-clause-waves : goal.returns-in-Halted-clause-waves
returns-in-Halted-clause-waves g c = λ s stands.
    let watch = c.args.engine.now.parts.settings.watch in
    let on = is_proposing c.args.phase in
    let mid = c.args.mid_line.now in
    let before = c.args.out.now in
    let left = some_left watch on c.waves.engine.parts c.waves.left s mid c.waves.mid_line before c.waves.out c.waves-test.true (c.waves.invariant.going s stands) in
    halts watch on c.waves.engine.parts c.wave.new.self.parts (c.waves.left - 1) s mid c.waves.mid_line c.wave.new.mid_line before c.waves.out c.wave.new.out left
    (waves_at c.waves.engine.parts.settings c.args.engine.now.parts.settings c.waves.invariant.settings on left.course.agent c.waves.engine.parts c.wave.new.self.parts c.waves.mid_line c.wave.new.mid_line
    c.waves.out c.wave.new.out (Ok c.in_ok-wave.field-0) (Ok waved.Halted) (ap Ok c.in-Halted.is) (c.in_ok-wave.ensures.wave left.course.agent left.went.stands))

pub returns-clause-waves : goal.returns-clause-waves
returns-clause-waves g c = λ s stands.
    let on = is_proposing c.args.phase in
    let left = c.waves.invariant.going s stands in
    is_over c.args.engine.now.parts.settings.watch on c.waves.engine.parts c.has_work.new.self.parts c.waves.left s c.args.mid_line.now c.waves.mid_line c.args.out.now c.waves.out c.has_work.result c.waves-test.false left
    c.has_work.ensures.parts (c.has_work.ensures.work left.course.agent left.went.stands)

on_ok : {T E P : Type 0} (result : Result T E) → P → OnOk result P
on_ok (Ok done) p = p
on_ok (Err why) p = tt

pub returns-clause-sound : goal.returns-clause-sound
returns-clause-sound g c =
    on_ok c.has_work.result (subst IsSound (sym c.has_work.ensures.parts) (told_sound c.waves.engine.parts c.has_work.new.self.parts.live.told c.waves.invariant.sound))

pub returns-clause-lawful : goal.returns-clause-lawful
returns-clause-lawful g c =
    on_ok c.has_work.result (subst IsOfLawful (sym c.has_work.ensures.parts) (told_lawful c.waves.engine.parts c.has_work.new.self.parts.live.told c.waves.invariant.lawful))
