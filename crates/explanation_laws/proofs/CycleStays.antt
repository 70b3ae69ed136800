-- Explanations stay through learning, waves, decisions and cycles.
use Rattle.std.proofs.Common.{◌≡◌, refl, sym, subst, ℕ, zero, suc, nat_lt, Bool, true, false, cond, List, [], ◌∷◌, length, None}
use Rattle.soar_sym.specs.Words.{Texts}
use Rattle.soar_rule.specs.Repeat.{ends, goes_on, Turn, turns}
use Rattle.defs_soar.specs.declared.goal.Goal.{Goal}
use Rattle.defs_soar.specs.Agents.{Agent, Program}
use Rattle.defs_soar.specs.Cycle.{after_input, after_output, begun, course_of, cut_line, cycle, one_cycle, run, then_application, then_course, then_decision, then_phase, unless_halted}
use Rattle.defs_soar.specs.Decision.{after_limit, after_substate, after_walk, decided_by, view_of}
use Rattle.defs_soar.specs.Events.{Part, application_phase, proposal_phase}
use Rattle.defs_soar.specs.Learning.{with_learning}
use Rattle.defs_soar.specs.Pending.{Firable, is_none, pending}
use Rattle.defs_soar.specs.Phases.{Course, one_wave, phase, phased_by, still, then_step, turn_by}
use Rattle.defs_soar.specs.Resettling.{resettled}
use Rattle.defs_soar.specs.Walk.{Decided, meets, selects_operator, walked}
use Rattle.defs_soar.specs.WaveAtHand.{BeforeWave, Wave}
use Rattle.defs_soar.specs.WaveFirings.{before_wave, first_wave, with_firing, with_firings}
use Rattle.defs_soar.specs.Waves.{after_work, wave_of, worked}
use Rattle.learning_laws.specs.Lawful.{Grown}
use Rattle.learning_laws.proofs.ActionGrowth.{actions_grow}
use Rattle.learning_laws.proofs.TableGrowth.{grown_twice, not_grown}
use Rattle.program_laws.proofs.TeachingLaws.{learning_teaches}
use Rattle.explanation_laws.specs.Staying.{IsNumberedProgram, Later, LaterAgent}
use Rattle.explanation_laws.specs.Stays.{CyclesStay, DecisionsStay, FirstAgentIsNumbered, FirstSessionIsNumbered, LearnedIsFound, LearningStays, WavesStay, WholeRunsStay, WorkStays}
use Rattle.explanation_laws.proofs.ProgramLaws.{joined_above, joined_found, joined_later, later_itself, later_twice, spent_later}

pub first_agent_is_numbered : FirstAgentIsNumbered
first_agent_is_numbered watch = record { rise = tt; given = λ r i. absurd i; explained = λ l i. absurd i }

pub first_session_is_numbered : FirstSessionIsNumbered
first_session_is_numbered watch = first_agent_is_numbered watch

-- ---- waves

pub learning_stays : LearningStays
learning_stays m w h =
    let t = learning_teaches m w in
    let last = (with_learning m w).program.last_rule in
    joined_later w.program (with_learning m w).program t.rules t.chains h t.rules_are t.numbers t.chains_are (λ l i. joined_above w.program.last_rule t.rules last t.chains t.numbers t.of_rules l i)

pub learned_is_found : LearnedIsFound
learned_is_found m w l h i high =
    let t = learning_teaches m w in joined_found w.program (with_learning m w).program t.rules t.chains h t.numbers t.chains_are t.of_rules l i high

pub work_stays : WorkStays
unfolding resettled
work_stays a gone w h = (spent_later gone w.program h, not_grown w.names.words)

-- firings leave the program as it was
pub firings_same : (m : BeforeWave) (w : Wave) (xs : List Firable) → (with_firings m w xs).program ≡ w.program
unfolding with_firings
firings_same m w [] = refl
firings_same m w (x ∷ xs) = firings_same m (with_firing m w x) xs

firings_grow : (m : BeforeWave) (w : Wave) (xs : List Firable) → Grown w.names.words (with_firings m w xs).names.words
unfolding with_firings
firings_grow m w [] = not_grown w.names.words
firings_grow m w (x ∷ xs) =
    let v = with_firing m w x in
    grown_twice w.names.words v.names.words (with_firings m v xs).names.words
    (actions_grow m.reach.goals 1 x.rule.production.actions
    (record { wishes = []; text = []; halted = false; dropped = []; naming = record { bindings = x.bindings; words = w.names.words; letters = w.names.letters; vars = x.rule.production.vars; totals = [] } }))
    (firings_grow m v xs)

pub waves_stay : WavesStay
unfolding wave_of
waves_stay a work h =
    let fired = with_firings (before_wave a) (first_wave a) work.fired in
    let learned = worked with_learning a work in
    let after = (after_work a work.retracted learned).agent in
    let is : fired.program ≡ a.program = firings_same (before_wave a) (first_wave a) work.fired in
    let joined : Later a.program learned.program = subst (λ p. Later p learned.program) is (learning_stays (before_wave a) fired (subst IsNumberedProgram (sym is) h)) in
    let left = work_stays a work.retracted learned joined.numbered in (
      later_twice a.program learned.program after.program joined left.0,
      grown_twice a.names.words learned.names.words after.names.words
          (grown_twice a.names.words fired.names.words learned.names.words (firings_grow (before_wave a) (first_wave a) work.fired) (learning_teaches (before_wave a) fired).words) left.1,
    )

-- ---- phases, decisions and cycles

module _ (p : Program) (words : Texts) where
  abbrev pub Goes : Agent → Type 0
  Goes a = Later p a.program × Grown words a.names.words

  abbrev pub TurnGoes : Turn Course → Type 0
  TurnGoes (ends c) = Goes c.agent
  TurnGoes (goes_on c) = Goes c.agent

  pub turns_go : (step : Course → Turn Course) → ((c : Course) → Goes c.agent → TurnGoes (step c)) → (n : ℕ) (c : Course) → Goes c.agent → TurnGoes (turns n step c)
  turns_go step keeps zero c h = h
  turns_go step keeps (suc n) c h = go (step c) (keeps c h) (turns_go step keeps n)
    where
      go : (t : Turn Course) → TurnGoes t → ((d : Course) → Goes d.agent → TurnGoes (turns n step d)) → TurnGoes (elim t [ ends b ↦ ends b | goes_on b ↦ turns n step b ])
      go (ends b) k later = k
      go (goes_on b) k later = later b k

  wave_goes : (proposing : Bool) (a : Agent) → Goes a → Goes (wave_of with_learning a (pending proposing a)).agent
  wave_goes proposing a h =
      let after = (wave_of with_learning a (pending proposing a)).agent in
      let one = waves_stay a (pending proposing a) h.0.numbered in
      (later_twice p a.program after.program h.0 one.0, grown_twice words a.names.words after.names.words h.1 one.1)

  pub one_wave_goes : (proposing : Bool) (c : Course) → Goes c.agent → TurnGoes (one_wave with_learning proposing c)
  one_wave_goes proposing c h = go (is_none (pending proposing c.agent))
    where
      turn : (b : Bool) → TurnGoes (turn_by b (then_step c (wave_of with_learning c.agent (pending proposing c.agent))))
      turn true = wave_goes proposing c.agent h
      turn false = wave_goes proposing c.agent h

      go : (b : Bool) → TurnGoes (elim b [
        | true ↦ ends c
        | false ↦ turn_by (wave_of with_learning c.agent (pending proposing c.agent)).halted (then_step c (wave_of with_learning c.agent (pending proposing c.agent)))
      ])
      go true = h
      go false = turn ((wave_of with_learning c.agent (pending proposing c.agent)).halted)

  pub phase_goes : (proposing : Bool) (a : Agent) → Goes a → Goes (phase with_learning proposing a).course.agent
  unfolding phase
  phase_goes proposing a h = go (turns a.settings.max_elaborations (one_wave with_learning proposing) (still a)) (turns_go (one_wave with_learning proposing) (one_wave_goes proposing) a.settings.max_elaborations (still a) h)
    where
      go : (t : Turn Course) → TurnGoes t → Goes (phased_by proposing t).course.agent
      go (ends c) k = k
      go (goes_on c) k = k

  pub then_phase_goes : (part : Part) (proposing : Bool) (c : Course) → Goes c.agent → Goes (then_phase with_learning part proposing c).agent
  then_phase_goes part proposing c h = go ((phase with_learning proposing c.agent).is_cut)
    where
      go : (b : Bool) → Goes (cut_line part b (then_course (begun part c) (phase with_learning proposing c.agent).course)).agent
      go true = phase_goes proposing c.agent h
      go false = phase_goes proposing c.agent h

  pub unless_goes : (f : Course → Course) → ((c : Course) → Goes c.agent → Goes (f c).agent) → (c : Course) → Goes c.agent → Goes (unless_halted f c).agent
  unless_goes f keeps c h = go (c.agent.halted)
    where
      go : (b : Bool) → Goes (elim b as (λ x. Course) [ true ↦ c | false ↦ f c ]).agent
      go true = h
      go false = keeps c h

  walk_goes : (a : Agent) (goals : List Goal) (d : Decided) → Goes a → Goes (after_walk a (record { goals = goals; decided = d })).agent
  unfolding resettled
  walk_goes a goals (selects_operator operator takes) h = h
  walk_goes a goals (meets why items) h = go (nat_lt (length goals) 100)
    where
      go : (b : Bool) → Goes (cond b (after_substate a goals why items) (after_limit a goals)).agent
      go true = h
      go false = h

  pub decision_goes : (a : Agent) → Goes a → Goes (decided_by a).agent
  unfolding decided_by
  decision_goes a h = let end = walked (view_of a) None a.holding.goals in walk_goes a end.goals end.decided h

  pub input_goes : (a : Agent) → Goes a → Goes (after_input a).agent
  unfolding after_input resettled
  input_goes a h = h

  pub output_goes : (a : Agent) → Goes a → Goes (after_output a).agent
  unfolding after_output
  output_goes a h = h

  pub cycle_goes : (a : Agent) → Goes a → Goes (cycle decided_by with_learning a).agent
  unfolding cycle
  cycle_goes a h =
      let input = then_step (still a) (after_input a) in
      let proposed = then_phase with_learning proposal_phase true input in
      let decided = unless_halted (then_decision decided_by) proposed in
      let applied = unless_halted (then_application with_learning) decided in
      let h2 = then_phase_goes proposal_phase true input (input_goes a h) in
      let h3 = unless_goes (then_decision decided_by) (λ c k. decision_goes c.agent k) proposed h2 in
      let h4 = unless_goes (then_application with_learning) (λ c k. then_phase_goes application_phase false c k) decided h3 in
      output_goes applied.agent h4

  pub one_cycle_goes : (c : Course) → Goes c.agent → TurnGoes (one_cycle decided_by with_learning c)
  one_cycle_goes c h = go (c.agent.halted)
    where
      go : (b : Bool) → TurnGoes (elim b [ true ↦ ends c | false ↦ goes_on (then_course c (cycle decided_by with_learning c.agent)) ])
      go true = h
      go false = cycle_goes c.agent h

  pub run_goes : (n : ℕ) (a : Agent) → Goes a → Goes (run decided_by with_learning n a).agent
  unfolding run
  run_goes n a h = go (turns n (one_cycle decided_by with_learning) (still a)) (turns_go (one_cycle decided_by with_learning) one_cycle_goes n (still a) h)
    where
      go : (t : Turn Course) → TurnGoes t → Goes (course_of t).agent
      go (ends c) k = k
      go (goes_on c) k = k

-- ---- from an agent on

pub agent_itself : (a : Agent) → IsNumberedProgram a.program → LaterAgent a a
agent_itself a h = (later_itself a.program h, not_grown a.names.words)

pub decisions_stay : DecisionsStay
decisions_stay a h = decision_goes a.program a.names.words a (agent_itself a h)

pub cycles_stay : CyclesStay
cycles_stay a h = cycle_goes a.program a.names.words a (agent_itself a h)

pub whole_runs_stay : WholeRunsStay
whole_runs_stay n a h = run_goes a.program a.names.words n a (agent_itself a h)
