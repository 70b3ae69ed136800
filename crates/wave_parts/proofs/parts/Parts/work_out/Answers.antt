use Rattle.std.proofs.Common.{◌≡◌, ◌∙◌, ◌+◌, List, Ok, Err, map, refl, sym, ap, subst}
use Rattle.std.proofs.lemmas.Result.{err_from_is_err_and}
use Rattle.defs_match.specs.Rules.{rule_seen}
use Rattle.defs_soar.specs.declared.goal.Goal.{Goal}
use Rattle.defs_soar.specs.Goals.{goal_ids}
use Rattle.firing_records.specs.Recorded.{standing}
use Rattle.soar_fire.proofs.GrowthLemmas.{grown_twice}
use Rattle.firing_records.specs.Levels.{TellsLevels}
use Rattle.soar_rule.specs.Symbols.{AreKnown}
use Rattle.soar_wm.specs.WorkingMemory.{triple_of}
use Rattle.wave_learning.specs.Entries.{entry_seen}
use Rattle.wave_firings.specs.Listed.{recorded_in}
use Rattle.wave_firings.specs.Numbered.{AreGoalsOf}
use Rattle.wave_learning.specs.Hands.{program_seen}
use Rattle.wave_parts.specs.Seen.{pending_of}
use Rattle.wave_parts.specs.Working.{standing_now}
use Rattle.wave_parts.proofs.FiredKnownLemmas.{is_wave}
use Rattle.wave_parts.proofs.FiringLemmas.{ids_known}
use Rattle.wave_parts.proofs.RecordedLemmas.{recorded_alone}
use Rattle.wave_parts.proofs.SoundLemmas.{levels_told}
use Rattle.wave_parts.proofs.WorkedLemmas.{fires_so, has_fired, holds_wave, learns_here, stops_in_counting, stops_in_firing, stops_in_learning, to_learn, works_each}
use Rattle.wave_parts.proofs.WorkedSoundLemmas.{WaveLaws, worked_out}
use Rattle.wave_parts.proofs.parts.Parts.work_out.Goals as goal

pub new-requires : goal.new-requires
new-requires c =
    let old = c.args.self.now in
    subst (λ (goals : List Goal). TellsLevels old.kept goals (map triple_of old.memory.elements)) (sym c.list.ensures.goals) (levels_told old c.requires.sound)

pub fire_all-requires-clause-goals_known : goal.fire_all-requires-clause-goals_known
fire_all-requires-clause-goals_known c =
    subst (λ goals. AreKnown c.args.self.now.table (goal_ids goals)) (sym (c.in_ok-before.ensures.goals ∙ c.list.ensures.goals))
    (ids_known c.args.self.now.table c.args.self.now.letters c.args.self.now.goals c.requires.sound.goals_known)

pub learn-requires : goal.learn-requires
learn-requires c =
    let old = c.args.self.now in
    let work = c.args.work.now in
    let same : standing c.in_ok-before.before ≡ standing_now old = λ k. record { goals = (c.in_ok-before.ensures.goals ∙ c.list.ensures.goals) k; rows = (c.in_ok-before.ensures.prefs k).rows; elements = (c.in_ok-before.ensures.memory k).elements } in
    let all = fires_so old (standing c.in_ok-before.before) (map rule_seen c.args.self.now.rules) work c.fire_all.new.table c.fire_all.new.letters (Ok c.in_ok-fired.fired) same
    refl c.in_ok-fired.ensures.answer in
    to_learn c.agents_stay_lawful.ensures.firings old work (standing c.in_ok-before.before) c.fire_all.new.table c.fire_all.new.letters c.in_ok-fired.fired c.take_program-program.result c.in_ok-last.last
    c.requires.lawful c.requires.pending same all (ap program_seen c.take_program-program.ensures) (c.in_ok-last.ensures.count.0 ∙ ap (λ n. old.firings + n) c.len.ensures)

pub returns-in_err-fired-clause-answer : goal.returns-in_err-fired-clause-answer
returns-in_err-fired-clause-answer c =
    let old = c.args.self.now in
    let work = c.args.work.now in
    let same : standing c.in_ok-before.before ≡ standing_now old = λ k. record { goals = (c.in_ok-before.ensures.goals ∙ c.list.ensures.goals) k; rows = (c.in_ok-before.ensures.prefs k).rows; elements = (c.in_ok-before.ensures.memory k).elements } in
    let p = err_from_is_err_and c.from_residual-in_err-fired.result c.from_residual-in_err-fired.ensures.1 in
    stops_in_firing c.rules_join.ensures.teaches old _ work c.fire_all.new.table c.fire_all.new.letters c.from_residual-in_err-fired.result c.in_err-fired.field-0.0 (p.1 ∙ ap Err p.2)
    (fires_so old (standing c.in_ok-before.before) (map rule_seen c.args.self.now.rules) work c.fire_all.new.table c.fire_all.new.letters (Err c.in_err-fired.field-0.0) same
    refl c.in_err-fired.ensures.answer)

pub returns-in_err-last-clause-answer : goal.returns-in_err-last-clause-answer
returns-in_err-last-clause-answer c =
    let old = c.args.self.now in
    let work = c.args.work.now in
    let same : standing c.in_ok-before.before ≡ standing_now old = λ k. record { goals = (c.in_ok-before.ensures.goals ∙ c.list.ensures.goals) k; rows = (c.in_ok-before.ensures.prefs k).rows; elements = (c.in_ok-before.ensures.memory k).elements } in
    let all = fires_so old (standing c.in_ok-before.before) (map rule_seen c.args.self.now.rules) work c.fire_all.new.table c.fire_all.new.letters (Ok c.in_ok-fired.fired) same
    refl c.in_ok-fired.ensures.answer in
    let p = err_from_is_err_and c.from_residual-in_err-last.result c.from_residual-in_err-last.ensures.1 in
    stops_in_counting old _ work c.fire_all.new.table c.fire_all.new.letters c.in_ok-fired.fired c.len.result c.from_residual-in_err-last.result c.in_err-last.field-0.0 (p.1 ∙ ap Err p.2)
    all c.in_err-last.ensures.fits c.len.ensures c.in_err-last.ensures.count

pub returns-in_err-hand-clause-answer : goal.returns-in_err-hand-clause-answer
returns-in_err-hand-clause-answer c =
    let old = c.args.self.now in
    let work = c.args.work.now in
    let same : standing c.in_ok-before.before ≡ standing_now old = λ k. record { goals = (c.in_ok-before.ensures.goals ∙ c.list.ensures.goals) k; rows = (c.in_ok-before.ensures.prefs k).rows; elements = (c.in_ok-before.ensures.memory k).elements } in
    let all = fires_so old (standing c.in_ok-before.before) (map rule_seen c.args.self.now.rules) work c.fire_all.new.table c.fire_all.new.letters (Ok c.in_ok-fired.fired) same
    refl c.in_ok-fired.ensures.answer in
    let p = err_from_is_err_and c.from_residual-in_err-hand.result c.from_residual-in_err-hand.ensures.1 in
    works_each c.agents_stay_lawful.ensures.firings old _ work c.from_residual-in_err-hand.result c.requires.lawful c.requires.pending
    (λ w pend. stops_in_learning old _ (recorded_alone old) w c.learn.new.table c.from_residual-in_err-hand.result c.in_err-hand.field-0.0 (p.1 ∙ ap Err p.2)
    (learns_here c.agents_stay_lawful.ensures.firings old work w (standing c.in_ok-before.before) c.fire_all.new.table c.fire_all.new.letters c.in_ok-fired.fired c.take_program-program.result c.in_ok-last.last c.learn.new.table
    (Err c.in_err-hand.field-0.0) c.requires.lawful c.requires.pending pend same all (ap program_seen c.take_program-program.ensures) (c.in_ok-last.ensures.count.0 ∙ ap (λ n. old.firings + n) c.len.ensures)
    c.in_err-hand.ensures.learns))

pub returns-in_err-hand-clause-from : goal.returns-in_err-hand-clause-from
returns-in_err-hand-clause-from c = record {
  words = (grown_twice _ _ _ (record { grown = c.fire_all.ensures.words }) (record { grown = c.learn.ensures.words })).grown;
  letters = c.fire_all.ensures.letters;
  same = refl;
}

pub returns-clause-from : goal.returns-clause-from
returns-clause-from c = record {
  words = (grown_twice _ _ _ (record { grown = c.fire_all.ensures.words }) (record { grown = c.learn.ensures.words })).grown;
  letters = c.fire_all.ensures.letters;
  same = refl;
}

pub returns-clause-answer : goal.returns-clause-answer
returns-clause-answer c =
    let old = c.args.self.now in
    let work = c.args.work.now in
    let same : standing c.in_ok-before.before ≡ standing_now old = λ k. record { goals = (c.in_ok-before.ensures.goals ∙ c.list.ensures.goals) k; rows = (c.in_ok-before.ensures.prefs k).rows; elements = (c.in_ok-before.ensures.memory k).elements } in
    let all = fires_so old (standing c.in_ok-before.before) (map rule_seen c.args.self.now.rules) work c.fire_all.new.table c.fire_all.new.letters (Ok c.in_ok-fired.fired) same
    refl c.in_ok-fired.ensures.answer in
    works_each c.agents_stay_lawful.ensures.firings old _ work (Ok (record { entries = c.in_ok-hand.hand.entries; halted = c.in_ok-fired.fired.halted })) c.requires.lawful c.requires.pending
    (λ w pend. holds_wave c.rules_join.ensures.teaches old (recorded_alone old) w _ c.fire_all.new.table c.fire_all.new.letters c.in_ok-fired.fired c.learn.new.table c.in_ok-hand.hand
    (has_fired old (recorded_alone old) work w c.fire_all.new.table c.fire_all.new.letters c.in_ok-fired.fired pend all)
    (learns_here c.agents_stay_lawful.ensures.firings old work w (standing c.in_ok-before.before) c.fire_all.new.table c.fire_all.new.letters c.in_ok-fired.fired c.take_program-program.result c.in_ok-last.last c.learn.new.table
    (Ok c.in_ok-hand.hand) c.requires.lawful c.requires.pending pend same all (ap program_seen c.take_program-program.ensures) (c.in_ok-last.ensures.count.0 ∙ ap (λ n. old.firings + n) c.len.ensures)
    c.in_ok-hand.ensures.learns))

pub returns-clause-worked : goal.returns-clause-worked
returns-clause-worked c =
    let old = c.args.self.now in
    let work = c.args.work.now in
    let w = pending_of c.requires.pending.0 old in
    let pend = c.requires.pending.1 in
    let laws : WaveLaws = record {
      firings = c.agents_stay_lawful.ensures.firings;
      learning = c.agents_stay_lawful.ensures.learning;
      teaches = c.rules_join.ensures.teaches;
      makers = c.rules_join.ensures.makers;
      matchable = c.learned_rules_match.ensures.matched;
      known = c.learning_is_known.ensures.known;
      order = c.records_stay.ensures.learning;
      goals = c.new_goals_depend_on_nothing.ensures.learning;
    } in
    let same : standing c.in_ok-before.before ≡ standing_now old = λ k. record { goals = (c.in_ok-before.ensures.goals ∙ c.list.ensures.goals) k; rows = (c.in_ok-before.ensures.prefs k).rows; elements = (c.in_ok-before.ensures.memory k).elements } in
    let all = fires_so old (standing c.in_ok-before.before) (map rule_seen c.args.self.now.rules) work c.fire_all.new.table c.fire_all.new.letters (Ok c.in_ok-fired.fired) same
    refl c.in_ok-fired.ensures.answer in
    let at = learns_here c.agents_stay_lawful.ensures.firings old work w (standing c.in_ok-before.before) c.fire_all.new.table c.fire_all.new.letters c.in_ok-fired.fired c.take_program-program.result c.in_ok-last.last
    c.learn.new.table (Ok c.in_ok-hand.hand) c.requires.lawful c.requires.pending pend same all (ap program_seen c.take_program-program.ensures)
    (c.in_ok-last.ensures.count.0 ∙ ap (λ n. old.firings + n) c.len.ensures) c.in_ok-hand.ensures.learns in
    worked_out laws old _ (recorded_alone old) w c.in_ok-hand.hand.entries c.in_ok-fired.fired.halted c.requires.sound
    (is_wave laws old work w c.fire_all.new.table c.fire_all.new.letters c.in_ok-fired.fired c.learn.new.table c.in_ok-hand.hand c.requires.sound c.requires.lawful c.requires.pending pend all
    c.fire_all.ensures.words c.in_ok-fired.ensures.told_known
    (subst (λ goals. AreGoalsOf goals (recorded_in (map entry_seen c.in_ok-fired.fired.entries))) (c.in_ok-before.ensures.goals ∙ c.list.ensures.goals) c.in_ok-fired.ensures.goals) at
    (record {
      words = (grown_twice _ _ _ (record { grown = c.fire_all.ensures.words }) (record { grown = c.learn.ensures.words })).grown;
      letters = c.fire_all.ensures.letters;
      same = refl;
    }))
