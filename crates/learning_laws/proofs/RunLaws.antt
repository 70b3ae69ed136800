-- Learning keeps a wave lawful, so whole runs keep an agent lawful.
use Rattle.std.proofs.Common.{refl, ℕ, zero, suc, nat_lt, cond, inl, ◌==◌, Bool, true, false, ◌&&◌, ◌||◌, List, [], ◌∷◌, filter, length}
use Rattle.std.specs.List.{list_any}
use Rattle.soar_rule.specs.Repeat.{ends, goes_on, repeated, Turn, turns}
use Rattle.defs_soar.specs.Agents.{Agent}
use Rattle.defs_soar.specs.Cycle.{after_input, after_output, begun, course_of, cut_line, cycle, one_cycle, run, then_application, then_course, then_decision, then_phase, unless_halted}
use Rattle.defs_soar.specs.Decision.{decided_by}
use Rattle.defs_soar.specs.Events.{Part, application_phase, proposal_phase}
use Rattle.defs_soar.specs.Pending.{is_none, pending}
use Rattle.defs_soar.specs.Phases.{Course, halting, one_wave, phase, phased_by, still, then_step, turn_by}
use Rattle.defs_soar.specs.Resettling.{AgentStep}
use Rattle.defs_soar.specs.Laws.{IsIn}
use Rattle.defs_soar.specs.Learning.{learned_from, learned_from_each, one_round, with_learning}
use Rattle.defs_soar.specs.Results.{is_result}
use Rattle.defs_soar.specs.LearnedRules.{after_explanation}
use Rattle.defs_soar.specs.WaveAtHand.{all_fresh, Fresh, Wave, WaveEnd}
use Rattle.defs_soar.specs.WaveFirings.{first_wave, before_wave, with_firings}
use Rattle.defs_soar.specs.Waves.{wave_of, worked}
use Rattle.learning_laws.specs.LawfulAgents.{IsLawfulAgent}
use Rattle.learning_laws.specs.LawfulWaves.{IsLawfulWave, KeepsAgents, KeepsWaves, LearningKeeps, explained_in, LearningStepsKeep, PhasesKeep, RunsKeep, WavesKeep}
use Rattle.learning_laws.proofs.ChunkJoins.{learning_steps_keep}
use Rattle.learning_laws.proofs.DecideLaws.{decision_keeps}
use Rattle.learning_laws.proofs.FoundedLaws.{input_keeps, output_keeps}
use Rattle.learning_laws.proofs.FiringsLaws.{all_firings_keep}
use Rattle.learning_laws.proofs.Lists.{filter_within}
use Rattle.learning_laws.proofs.WorkLaws.{work_keeps}

-- ---- learning, step by step

others_same : (a : Agent) (w : Wave) (next : List ℕ) → IsLawfulWave a w → IsLawfulWave a (record w { next = next })
others_same a w next k = record { founded = k.founded; wishes = k.wishes; counted = k.counted; later = k.later; explains = k.explains; can = k.can }

each_keeps : LearningStepsKeep → (a : Agent) (numbers : List ℕ) (w : Wave) → IsLawfulAgent a → IsLawfulWave a w → IsLawfulWave a (learned_from_each (before_wave a) numbers w)
each_keeps learning_steps a [] w h k = k
each_keeps learning_steps a (n ∷ numbers) w h k =
    go (filter (λ x. x.firing.number == n) (all_fresh w.entries)) (λ x i. (filter_within (λ x. x.firing.number == n) (all_fresh w.entries) x i).0) (λ v l. each_keeps learning_steps a numbers v h l)
  where
    one : (x : Fresh) → IsIn x (all_fresh w.entries) → (b : Bool) → IsLawfulWave a (cond b (after_explanation (before_wave a) (explained_in a w x.firing) w) w)
    one x i true = learning_steps a w x h k i
    one x i false = k

    go : (found : List Fresh) → ((x : Fresh) → IsIn x found → IsIn x (all_fresh w.entries)) → ((v : Wave) → IsLawfulWave a v → IsLawfulWave a (learned_from_each (before_wave a) numbers v))
        → IsLawfulWave a (learned_from_each (before_wave a) numbers (elim found as (λ y. Wave) [ [] ↦ w | x ∷ others ↦ learned_from (before_wave a) x.firing w ]))
    go [] within later = later w k
    go (x ∷ others) within later = later (learned_from (before_wave a) x.firing w) (one x (within x (inl refl)) (nat_lt 1 x.firing.depth && list_any (is_result (before_wave a).reach x.firing.depth) x.firing.made))

pub learning_keeps : LearningKeeps
unfolding with_learning
learning_keeps a w h k = rounds (length a.holding.goals) w k
  where
    rounds : (n : ℕ) (v : Wave) → IsLawfulWave a v → IsLawfulWave a (repeated n (one_round (before_wave a)) v)
    rounds zero v l = l
    rounds (suc n) v l = rounds n (one_round (before_wave a) v) (each_keeps learning_steps_keep a v.next (record v { next = [] }) h (others_same a v [] l))

-- ---- waves, phases and runs

halted_same : (a : Agent) (b : Bool) → IsLawfulAgent a → IsLawfulAgent (record a { halted = b })
halted_same a b h = record { founded = h.founded; held_up = record { held = h.held_up.held; marks = h.held_up.marks; flags = h.held_up.flags; candidates = h.held_up.candidates } }

step_lawful : (s : AgentStep) → IsLawfulAgent s.agent → IsLawfulAgent (halting s)
step_lawful s h = halted_same s.agent (s.agent.halted || s.halted) h

abbrev TurnLawful : Turn Course → Type 0
TurnLawful (ends c) = IsLawfulAgent c.agent
TurnLawful (goes_on c) = IsLawfulAgent c.agent

turns_lawful : (step : Course → Turn Course) → ((c : Course) → IsLawfulAgent c.agent → TurnLawful (step c)) → (n : ℕ) (c : Course) → IsLawfulAgent c.agent → TurnLawful (turns n step c)
turns_lawful step keeps zero c h = h
turns_lawful step keeps (suc n) c h = go (step c) (keeps c h) (turns_lawful step keeps n)
  where
    go : (t : Turn Course) → TurnLawful t → ((d : Course) → IsLawfulAgent d.agent → TurnLawful (turns n step d)) → TurnLawful (elim t [ ends b ↦ ends b | goes_on b ↦ turns n step b ])
    go (ends b) k later = k
    go (goes_on b) k later = later b k

module _ (deciding : Agent → AgentStep) (end : WaveEnd) (decides : KeepsAgents deciding) (keeps : KeepsWaves end) where
  wave_lawful : (proposing : Bool) (a : Agent) → IsLawfulAgent a → IsLawfulAgent (wave_of end a (pending proposing a)).agent
  unfolding wave_of
  wave_lawful proposing a h =
      work_keeps a (pending proposing a).retracted (worked end a (pending proposing a)) h
      (keeps a (with_firings (before_wave a) (first_wave a) (pending proposing a).fired) h (all_firings_keep a proposing h))

  one_wave_lawful : (proposing : Bool) (c : Course) → IsLawfulAgent c.agent → TurnLawful (one_wave end proposing c)
  one_wave_lawful proposing c h = go (is_none (pending proposing c.agent))
    where
      turn : (b : Bool) → TurnLawful (turn_by b (then_step c (wave_of end c.agent (pending proposing c.agent))))
      turn true = step_lawful (wave_of end c.agent (pending proposing c.agent)) (wave_lawful proposing c.agent h)
      turn false = step_lawful (wave_of end c.agent (pending proposing c.agent)) (wave_lawful proposing c.agent h)

      go : (b : Bool) → TurnLawful (elim b [
        | true ↦ ends c
        | false ↦ turn_by (wave_of end c.agent (pending proposing c.agent)).halted (then_step c (wave_of end c.agent (pending proposing c.agent)))
      ])
      go true = h
      go false = turn ((wave_of end c.agent (pending proposing c.agent)).halted)

  phase_lawful : (proposing : Bool) (a : Agent) → IsLawfulAgent a → IsLawfulAgent (phase end proposing a).course.agent
  unfolding phase
  phase_lawful proposing a h = go (turns a.settings.max_elaborations (one_wave end proposing) (still a)) (turns_lawful (one_wave end proposing) (one_wave_lawful proposing) a.settings.max_elaborations (still a) h)
    where
      go : (t : Turn Course) → TurnLawful t → IsLawfulAgent (phased_by proposing t).course.agent
      go (ends c) k = k
      go (goes_on c) k = k

  then_phase_lawful : (part : Part) (proposing : Bool) (c : Course) → IsLawfulAgent c.agent → IsLawfulAgent (then_phase end part proposing c).agent
  then_phase_lawful part proposing c h = go ((phase end proposing c.agent).is_cut)
    where
      go : (b : Bool) → IsLawfulAgent (cut_line part b (then_course (begun part c) (phase end proposing c.agent).course)).agent
      go true = phase_lawful proposing c.agent h
      go false = phase_lawful proposing c.agent h

  unless_lawful : (f : Course → Course) → ((c : Course) → IsLawfulAgent c.agent → IsLawfulAgent (f c).agent) → (c : Course) → IsLawfulAgent c.agent → IsLawfulAgent (unless_halted f c).agent
  unless_lawful f keeps c h = go (c.agent.halted)
    where
      go : (b : Bool) → IsLawfulAgent (elim b as (λ x. Course) [ true ↦ c | false ↦ f c ]).agent
      go true = h
      go false = keeps c h

  cycle_lawful : (a : Agent) → IsLawfulAgent a → IsLawfulAgent (cycle deciding end a).agent
  unfolding cycle
  cycle_lawful a h =
      let input = then_step (still a) (after_input a) in
      let proposed = then_phase end proposal_phase true input in
      let decided = unless_halted (then_decision deciding) proposed in
      let applied = unless_halted (then_application end) decided in
      let h1 = step_lawful (after_input a) (input_keeps a h) in
      let h2 = then_phase_lawful proposal_phase true input h1 in
      let h3 = unless_lawful (then_decision deciding) (λ c k. step_lawful (deciding c.agent) (decides c.agent k)) proposed h2 in
      let h4 = unless_lawful (then_application end) (λ c k. then_phase_lawful application_phase false c k) decided h3 in
      step_lawful (after_output applied.agent) (output_keeps applied.agent h4)

  one_cycle_lawful : (c : Course) → IsLawfulAgent c.agent → TurnLawful (one_cycle deciding end c)
  one_cycle_lawful c h = go (c.agent.halted)
    where
      go : (b : Bool) → TurnLawful (elim b [ true ↦ ends c | false ↦ goes_on (then_course c (cycle deciding end c.agent)) ])
      go true = h
      go false = cycle_lawful c.agent h

  run_lawful : (n : ℕ) (a : Agent) → IsLawfulAgent a → IsLawfulAgent (run deciding end n a).agent
  unfolding run
  run_lawful n a h = go (turns n (one_cycle deciding end) (still a)) (turns_lawful (one_cycle deciding end) one_cycle_lawful n (still a) h)
    where
      go : (t : Turn Course) → TurnLawful t → IsLawfulAgent (course_of t).agent
      go (ends c) k = k
      go (goes_on c) k = k

pub waves_keep : WavesKeep
waves_keep end keeps a proposing h = wave_lawful decided_by end decision_keeps keeps proposing a h

pub phases_keep : PhasesKeep
phases_keep end keeps a proposing h = phase_lawful decided_by end decision_keeps keeps proposing a h

pub runs_keep : RunsKeep
runs_keep deciding end decides keeps n a h = run_lawful deciding end decides keeps n a h
