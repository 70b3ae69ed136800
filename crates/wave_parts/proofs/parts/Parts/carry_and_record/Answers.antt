use Rattle.std.proofs.Common.{◌∙◌, Ok, Err, sym, ap, subst}
use Rattle.std.proofs.lemmas.Result.{err_from_is_err_and}
use Rattle.defs_soar.specs.Learning.{with_learning}
use Rattle.defs_soar.specs.Waves.{wave_of}
use Rattle.matching_laws.specs.Telling.{IsTold}
use Rattle.soar_wm.specs.WorkingMemory.{WorkingMemory}
use Rattle.wave_parts.specs.Carrying.{Carried}
use Rattle.wave_parts.specs.Lawful.{IsOfLawful}
use Rattle.wave_parts.specs.Seen.{IsSound, agent_of, pending_of}
use Rattle.wave_parts.specs.Teaching.{AreRetaught}
use Rattle.wave_parts.proofs.CarriedLemmas.{carries_not, of_each_wave}
use Rattle.wave_parts.proofs.ChangedLemmas.{are_earlier, can_join, depends_left, end_is_sound, is_carried, is_known, is_retaught, left_itself, memory_is, record_after, settling_stops}
use Rattle.wave_parts.proofs.DoneLemmas.{lawful_end}
use Rattle.wave_parts.proofs.SoundLemmas.{to_settle}
use Rattle.wave_parts.proofs.parts.Parts.carry_and_record.Goals as goal

pub returns-in_err-change-clause-wave : goal.returns-in_err-change-clause-wave
returns-in_err-change-clause-wave c =
    of_each_wave c.args.self.now _ c.args.work c.from_residual.result
    (λ history remembers w pend.
    let p = err_from_is_err_and c.from_residual.result c.from_residual.ensures.1 in
    carries_not _ (wave_of with_learning (agent_of c.args.self.now history) w) c.from_residual.result c.in_err-change.field-0.0 (p.1 ∙ ap Err p.2) (c.in_err-change.ensures.answer history remembers w pend))

pub tags_found-requires-clause-new : goal.tags_found-requires-clause-new
tags_found-requires-clause-new c =
    let mid = c.change.new.self in
    can_join c.args.self.now mid c.args.work c.in_ok-change.change c.requires.sound c.in_ok-change.ensures.answer mid (left_itself mid)

pub tags_found-requires-clause-earlier : goal.tags_found-requires-clause-earlier
tags_found-requires-clause-earlier c =
    let mid = c.change.new.self in
    are_earlier c.args.self.now mid c.args.work c.in_ok-change.change c.requires.sound c.in_ok-change.ensures.answer mid (left_itself mid)

pub tags_found-requires-clause-sound : goal.tags_found-requires-clause-sound
tags_found-requires-clause-sound c = c.in_ok-change.ensures.answer.sound

pub resettle-requires : goal.resettle-requires
resettle-requires c = record { sound = to_settle c.change.new.self c.in_ok-change.ensures.answer.sound }

pub returns-in_err-settled-clause-wave : goal.returns-in_err-settled-clause-wave
returns-in_err-settled-clause-wave c =
    of_each_wave c.args.self.now _ c.args.work c.from_residual-in_err-settled.result
    (λ history remembers w pend.
    let old = c.args.self.now in
    let p = err_from_is_err_and c.from_residual-in_err-settled.result c.from_residual-in_err-settled.ensures.1 in
    carries_not _ (wave_of with_learning (agent_of old history) w) c.from_residual-in_err-settled.result c.in_err-settled.field-0.0 (p.1 ∙ ap Err p.2)
    (settling_stops old c.change.new.self c.args.work c.in_ok-change.change c.requires.sound c.in_ok-change.ensures.answer history remembers w pend c.resettle.new.self c.in_err-settled.field-0.0 c.in_err-settled.ensures.each))

pub remember-requires : goal.remember-requires
remember-requires c =
    record { new = can_join c.args.self.now c.change.new.self c.args.work c.in_ok-change.change c.requires.sound c.in_ok-change.ensures.answer c.resettle.new.self c.resettle.ensures.left }

pub returns-clause-wave : goal.returns-clause-wave
returns-clause-wave c =
    of_each_wave c.args.self.now _ c.args.work
    (Ok (record {
      report = record { retracted = c.args.work.retracted; fired = c.in_ok-change.change.told; settled = c.in_ok-settled.settled };
      spent = c.in_ok-change.change.spent;
      halted = c.in_ok-change.change.halted;
    }))
    (λ history remembers w pend.
    let old = c.args.self.now in
    let mid = c.change.new.self in
    let work = c.args.work in
    let change = c.in_ok-change.change in
    let x = c.in_ok-change.ensures.answer in
    let new = c.resettle.new.self in
    let depends = c.remember.new.depends in
    let doubted = c.remember.new.doubted in
    let firings = c.remember.new.kept in
    subst (λ halted. Carried (record new { depends = depends; doubted = doubted; past = firings; halted = halted }) (record { retracted = work.retracted; fired = change.told; settled = c.in_ok-settled.settled }) change.halted (wave_of with_learning (agent_of old history) w)) (sym c.either-self.ensures)
    (is_carried old mid work change c.requires.sound x history remembers w pend c.dependencies_grow.ensures.goals new c.in_ok-settled.settled depends doubted firings c.in_ok-settled.ensures.each
    (record_after old mid work change c.requires.sound x new c.resettle.ensures.left c.agents_stay_lawful.ensures.learning c.requires.lawful c.in_ok-settled.settled firings c.in_ok-settled.ensures.each c.in_ok-remember.ensures.kept)
    (depends_left old c.change.new.self c.args.work c.in_ok-change.change c.requires.sound c.in_ok-change.ensures.answer new c.resettle.ensures.left depends c.in_ok-tags.tags firings c.in_ok-settled.ensures.sound
    c.in_ok-settled.ensures.first c.in_ok-remember.ensures.kept c.in_ok-tags.ensures c.in_ok-remember.ensures.depends)))

pub returns-clause-rules : goal.returns-clause-rules
returns-clause-rules c =
    let new = c.resettle.new.self in
    let depends = c.remember.new.depends in
    let doubted = c.remember.new.doubted in
    let firings = c.remember.new.kept in
    subst (λ halted. AreRetaught c.args.self.now (record new { depends = depends; doubted = doubted; past = firings; halted = halted }) c.in_ok-change.change.spent) (sym c.either-self.ensures)
    (is_retaught c.args.self.now c.change.new.self c.args.work c.in_ok-change.change c.requires.sound c.in_ok-change.ensures.answer new c.resettle.ensures.left depends doubted firings)

pub returns-clause-settings : goal.returns-clause-settings
returns-clause-settings c = c.resettle.ensures.left.settings ∙ c.change.ensures.settings

pub returns-clause-sound : goal.returns-clause-sound
returns-clause-sound c =
    let old = c.args.self.now in
    let change = c.in_ok-change.change in
    let new = c.resettle.new.self in
    let depends = c.remember.new.depends in
    let doubted = c.remember.new.doubted in
    let firings = c.remember.new.kept in
    subst (λ halted. IsSound (record new { depends = depends; doubted = doubted; past = firings; halted = halted })) (sym c.either-self.ensures)
    (end_is_sound old c.change.new.self c.args.work change c.requires.sound c.in_ok-change.ensures.answer new c.resettle.ensures.left depends doubted firings c.in_ok-tags.tags
    c.in_ok-settled.ensures.sound c.in_ok-remember.ensures.kept c.in_ok-remember.ensures.depends c.in_ok-remember.ensures.doubted)

pub returns-clause-known : goal.returns-clause-known
returns-clause-known c =
    is_known c.args.self.now c.change.new.self c.args.work c.in_ok-change.change c.requires.sound c.in_ok-change.ensures.answer c.resettle.new.self c.resettle.ensures.left c.in_ok-settled.settled c.requires.names
    c.in_ok-settled.ensures.known

pub returns-clause-lawful : goal.returns-clause-lawful
returns-clause-lawful c =
    let old = c.args.self.now in
    let mid = c.change.new.self in
    let work = c.args.work in
    let change = c.in_ok-change.change in
    let x = c.in_ok-change.ensures.answer in
    let new = c.resettle.new.self in
    let depends = c.remember.new.depends in
    let doubted = c.remember.new.doubted in
    let firings = c.remember.new.kept in
    let lawful = c.requires.lawful in
    subst (λ halted. IsOfLawful (record new { depends = depends; doubted = doubted; past = firings; halted = halted })) (sym c.either-self.ensures)
    (lawful_end (record { waves = c.agents_stay_lawful.ensures.waves; learning = c.agents_stay_lawful.ensures.learning; halts = c.sessions_keep.ensures.halts }) old _ work
    (record { retracted = work.retracted; fired = change.told; settled = c.in_ok-settled.settled }) change.halted lawful c.requires.pending
    (is_carried old mid work change c.requires.sound x lawful.agent.history lawful.stands.remembers (pending_of c.requires.pending.0 old) c.requires.pending.1 c.dependencies_grow.ensures.goals new c.in_ok-settled.settled
    depends doubted firings c.in_ok-settled.ensures.each
    (record_after old mid work change c.requires.sound x new c.resettle.ensures.left c.agents_stay_lawful.ensures.learning lawful c.in_ok-settled.settled firings c.in_ok-settled.ensures.each c.in_ok-remember.ensures.kept)
    (depends_left old c.change.new.self c.args.work c.in_ok-change.change c.requires.sound c.in_ok-change.ensures.answer new c.resettle.ensures.left depends c.in_ok-tags.tags firings c.in_ok-settled.ensures.sound
    c.in_ok-settled.ensures.first c.in_ok-remember.ensures.kept c.in_ok-tags.ensures c.in_ok-remember.ensures.depends)))

pub returns-clause-told : goal.returns-clause-told
returns-clause-told c =
    subst (λ (m : WorkingMemory). IsTold m.elements c.resettle.new.self.memory.elements c.in_ok-settled.settled.changes)
    (memory_is c.args.self.now c.change.new.self c.args.work c.in_ok-change.change c.requires.sound c.in_ok-change.ensures.answer) c.in_ok-settled.ensures.told

pub returns-clause-live : goal.returns-clause-live
returns-clause-live c = c.resettle.ensures.live ∙ c.change.ensures.live
