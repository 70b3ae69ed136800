-- Explanations stay from each wave of a run to the end of its phase, of its cycle and of the run.
use Rattle.std.proofs.Common.{◌≡◌, ◌∙◌, refl, sym, ap, subst, ℕ, zero, suc, ◌≤◌, ◌<◌, Bool, true, false, ◌⊎◌, inl, inr, arith, Some}
use Rattle.soar_sym.specs.Words.{Texts}
use Rattle.soar_rule.specs.Repeat.{ends, goes_on, Turn, turns}
use Rattle.defs_match.specs.Rules.{RuleOf}
use Rattle.defs_soar.specs.Agents.{Agent, Learnt, Program}
use Rattle.defs_soar.specs.Cycle.{course_of, cut_line, cycle, begun, one_cycle, run, then_application, then_course, then_decision, then_phase, unless_halted}
use Rattle.defs_soar.specs.Decision.{decided_by}
use Rattle.defs_soar.specs.Events.{application_phase, Part, proposal_phase}
use Rattle.defs_soar.specs.Learning.{with_learning}
use Rattle.defs_soar.specs.Pending.{is_none, pending, Work}
use Rattle.defs_soar.specs.Phases.{Course, halting, one_wave, phase, phased_by, still, then_step, turn_by}
use Rattle.defs_soar.specs.Resettling.{AgentStep}
use Rattle.defs_soar.specs.WaveAtHand.{BeforeWave, Wave}
use Rattle.defs_soar.specs.WaveFirings.{before_wave, first_wave, with_firings}
use Rattle.defs_soar.specs.Waves.{after_work, wave_of, worked}
use Rattle.defs_run.specs.Carrying.{chain_of_rule}
use Rattle.explanation_laws.specs.Moments.{after_cycles, after_waves, agent_at, at_phase, CyclesLast, decided, ExplanationsLast, first_waves, input_taken, is_going, IsFollowed, IsWithin, LearnedLasts, Moment, next_wave, phase_at, PhasesLast, RunsLast}
use Rattle.explanation_laws.specs.Staying.{HasStayed, IsNumberedProgram, Later, LaterAgent}
use Rattle.explanation_laws.proofs.CycleStays.{agent_itself, decision_goes, firings_same, Goes, input_goes, learned_is_found, learning_stays, one_cycle_goes, one_wave_goes, output_goes, run_goes, then_phase_goes, TurnGoes, turns_go, unless_goes, work_stays}
use Rattle.explanation_laws.proofs.PrintedLines.{later_has_it}
use Rattle.explanation_laws.proofs.ProgramLaws.{later_twice}

-- turns after one that was taken
abbrev turned : (Course → Turn Course) → ℕ → Turn Course → Turn Course
turned step n t = elim t as (λ x. Turn Course) [ ends c ↦ ends c | goes_on c ↦ turns n step c ]

-- a cycle, unless the agent is halted
abbrev cycled : Course → Bool → Turn Course
cycled c halted = elim halted as (λ x. Turn Course) [ true ↦ ends c | false ↦ goes_on (then_course c (cycle decided_by with_learning c.agent)) ]

module _ (p : Program) (words : Texts) where
  -- ---- more turns

  end_goes : (t : Turn Course) → TurnGoes p words t → Goes p words (course_of t).agent
  end_goes (ends c) h = h
  end_goes (goes_on c) h = h

  more_turns_go : (step : Course → Turn Course) → ((c : Course) → Goes p words c.agent → TurnGoes p words (step c)) → (k n : ℕ) → k ≤ n → (c : Course)
      → Goes p words (course_of (turns k step c)).agent → Goes p words (course_of (turns n step c)).agent
  more_turns_go step keeps zero n few c h = end_goes (turns n step c) (turns_go p words step keeps n c h)
  more_turns_go step keeps (suc k) zero few c h = absurd (let no : ⊥ = omega (arith, few) in no)
  more_turns_go step keeps (suc k) (suc n) few c h = go (step c) (more_turns_go step keeps k n (let less : k ≤ n = omega (arith, few) in less)) h
    where
      go : (t : Turn Course) → ((d : Course) → Goes p words (course_of (turns k step d)).agent → Goes p words (course_of (turns n step d)).agent)
          → Goes p words (course_of (turned step k t)).agent → Goes p words (course_of (turned step n t)).agent
      go (ends b) later h = h
      go (goes_on b) later h = later b h

  -- ---- to the end of a phase

  phase_ends : (proposing : Bool) (waves : ℕ) (a : Agent) → waves ≤ a.settings.max_elaborations → Goes p words (after_waves proposing waves a) → Goes p words (phase with_learning proposing a).course.agent
  unfolding phase
  phase_ends proposing waves a few h =
      go (first_waves proposing a.settings.max_elaborations a)
      (more_turns_go (one_wave with_learning proposing) (one_wave_goes p words proposing) waves a.settings.max_elaborations few (still a) h)
    where
      go : (t : Turn Course) → Goes p words (course_of t).agent → Goes p words (phased_by proposing t).course.agent
      go (ends c) k = k
      go (goes_on c) k = k

  then_phase_ends : (part : Part) (proposing : Bool) (waves : ℕ) (c : Course) → waves ≤ c.agent.settings.max_elaborations → Goes p words (after_waves proposing waves c.agent)
      → Goes p words (then_phase with_learning part proposing c).agent
  then_phase_ends part proposing waves c few h = go ((phase with_learning proposing c.agent).is_cut)
    where
      go : (b : Bool) → Goes p words (cut_line part b (then_course (begun part c) (phase with_learning proposing c.agent).course)).agent
      go true = phase_ends proposing waves c.agent few h
      go false = phase_ends proposing waves c.agent few h

  -- ---- to the end of a cycle

  decided_goes : (a : Agent) → Goes p words (then_phase with_learning proposal_phase true (input_taken a)).agent → Goes p words (decided a).agent
  decided_goes a h = unless_goes p words (then_decision decided_by) (λ c k. decision_goes p words c.agent k) (then_phase with_learning proposal_phase true (input_taken a)) h

  applied_goes : (a : Agent) → Goes p words (decided a).agent → Goes p words (unless_halted (then_application with_learning) (decided a)).agent
  applied_goes a h = unless_goes p words (then_application with_learning) (λ c k. then_phase_goes p words application_phase false c k) (decided a) h

  cycle_ends : (proposing : Bool) (waves : ℕ) (a : Agent) → (at_phase proposing a).halted ≡ false → waves ≤ (at_phase proposing a).settings.max_elaborations
      → Goes p words (after_waves proposing waves (at_phase proposing a)) → Goes p words (cycle decided_by with_learning a).agent
  unfolding cycle
  cycle_ends true waves a begins few h =
      output_goes p words (unless_halted (then_application with_learning) (decided a)).agent
      (applied_goes a (decided_goes a (then_phase_ends proposal_phase true waves (input_taken a) few h)))
  cycle_ends false waves a begins few h =
      output_goes p words (unless_halted (then_application with_learning) (decided a)).agent (go ((decided a).agent.halted) begins)
    where
      go : (b : Bool) → b ≡ false → Goes p words (elim b as (λ x. Course) [ true ↦ decided a | false ↦ then_application with_learning (decided a) ]).agent
      go true is = absurd (cc)
      go false is = then_phase_ends application_phase false waves (decided a) few h

  -- ---- to the end of a run

  cycle_of_run_goes : (k n : ℕ) → k < n → (c : Course) → (course_of (turns k (one_cycle decided_by with_learning) c)).agent.halted ≡ false
      → Goes p words (cycle decided_by with_learning (course_of (turns k (one_cycle decided_by with_learning) c)).agent).agent
      → Goes p words (course_of (turns n (one_cycle decided_by with_learning) c)).agent
  cycle_of_run_goes k zero few c runs h = absurd (let no : ⊥ = omega (arith, few) in no)
  cycle_of_run_goes zero (suc n) few c runs h = go (c.agent.halted) runs
    where
      go : (b : Bool) → b ≡ false → Goes p words (course_of (turned (one_cycle decided_by with_learning) n (cycled c b))).agent
      go true is = absurd (cc)
      go false is =
          let next : Course = then_course c (cycle decided_by with_learning c.agent) in
          end_goes (turns n (one_cycle decided_by with_learning) next) (turns_go p words (one_cycle decided_by with_learning) (one_cycle_goes p words) n next h)
  cycle_of_run_goes (suc k) (suc n) few c runs h = go (c.agent.halted) refl (cycle_of_run_goes k n (let less : k < n = omega (arith, few) in less)) runs h
    where
      go : (b : Bool) → c.agent.halted ≡ b
          → ((d : Course) → (course_of (turns k (one_cycle decided_by with_learning) d)).agent.halted ≡ false
          → Goes p words (cycle decided_by with_learning (course_of (turns k (one_cycle decided_by with_learning) d)).agent).agent
          → Goes p words (course_of (turns n (one_cycle decided_by with_learning) d)).agent)
          → (course_of (turned (one_cycle decided_by with_learning) k (cycled c b))).agent.halted ≡ false
          → Goes p words (cycle decided_by with_learning (course_of (turned (one_cycle decided_by with_learning) k (cycled c b))).agent).agent
          → Goes p words (course_of (turned (one_cycle decided_by with_learning) n (cycled c b))).agent
      go true is later runs h = absurd (cc)
      go false is later runs h = later (then_course c (cycle decided_by with_learning c.agent)) runs h

  run_ends : (cycles : ℕ) (a : Agent) (m : Moment) → IsWithin cycles a m → Goes p words (agent_at m a) → Goes p words (after_cycles cycles a)
  unfolding run
  run_ends cycles a m within h =
      cycle_of_run_goes m.cycles cycles within.early (still a) within.runs (cycle_ends m.proposing m.waves (after_cycles m.cycles a) within.begins within.allowed h)

  -- ---- up to a moment

  waves_go : (proposing : Bool) (waves : ℕ) (a : Agent) → Goes p words a → Goes p words (after_waves proposing waves a)
  waves_go proposing waves a h =
      end_goes (first_waves proposing waves a) (turns_go p words (one_wave with_learning proposing) (one_wave_goes p words proposing) waves (still a) h)

  at_phase_goes : (proposing : Bool) (a : Agent) → Goes p words a → Goes p words (at_phase proposing a)
  at_phase_goes true a h = input_goes p words a h
  at_phase_goes false a h = decided_goes a (then_phase_goes p words proposal_phase true (input_taken a) (input_goes p words a h))

-- ---- what is numbered at a moment

after_waves_numbered : (proposing : Bool) (waves : ℕ) (a : Agent) → IsNumberedProgram a.program → IsNumberedProgram (after_waves proposing waves a).program
after_waves_numbered proposing waves a h = (waves_go a.program a.names.words proposing waves a (agent_itself a h)).0.numbered

at_phase_numbered : (proposing : Bool) (a : Agent) → IsNumberedProgram a.program → IsNumberedProgram (at_phase proposing a).program
at_phase_numbered proposing a h = (at_phase_goes a.program a.names.words proposing a (agent_itself a h)).0.numbered

moment_numbered : (m : Moment) (a : Agent) → IsNumberedProgram a.program → IsNumberedProgram (agent_at m a).program
moment_numbered m a h =
    let cycles : IsNumberedProgram (after_cycles m.cycles a).program = (run_goes a.program a.names.words m.cycles a (agent_itself a h)).0.numbered in
    after_waves_numbered m.proposing m.waves (phase_at m a) (at_phase_numbered m.proposing (after_cycles m.cycles a) cycles)

-- ---- the laws

pub phases_last : PhasesLast
phases_last proposing waves a h few =
    let b = after_waves proposing waves a in phase_ends b.program b.names.words proposing waves a few (agent_itself b (after_waves_numbered proposing waves a h))

pub cycles_last : CyclesLast
cycles_last proposing waves a h begins few =
    let b = after_waves proposing waves (at_phase proposing a) in
    cycle_ends b.program b.names.words proposing waves a begins few (agent_itself b (after_waves_numbered proposing waves (at_phase proposing a) (at_phase_numbered proposing a h)))

pub runs_last : RunsLast
runs_last cycles a m h within = let b = agent_at m a in run_ends b.program b.names.words cycles a m within (agent_itself b (moment_numbered m a h))

pub explanations_last : ExplanationsLast
explanations_last cycles a m r c within h has there = later_has_it (agent_at m a).program (after_cycles cycles a).program r c has (runs_last cycles a m h within).0 there

-- ---- the wave behind a moment

turn_more : (step : Course → Turn Course) (n : ℕ) (c : Course) → is_going (turns n step c) ≡ true → course_of (turns (suc n) step c) ≡ course_of (step (course_of (turns n step c)))
turn_more step zero c goes = go (step c)
  where
    go : (t : Turn Course) → course_of (turned step zero t) ≡ course_of t
    go (ends b) = refl
    go (goes_on b) = refl
turn_more step (suc n) c goes = go (step c) (turn_more step n) goes
  where
    go : (t : Turn Course) → ((d : Course) → is_going (turns n step d) ≡ true → course_of (turns (suc n) step d) ≡ course_of (step (course_of (turns n step d))))
        → is_going (turned step n t) ≡ true → course_of (turned step (suc n) t) ≡ course_of (step (course_of (turned step n t)))
    go (ends b) later goes = absurd (cc)
    go (goes_on b) later goes = later b goes

-- what the next wave leaves
abbrev wave_from : Bool → Agent → AgentStep
wave_from proposing b = wave_of with_learning b (pending proposing b)

wave_turn : (proposing : Bool) (c : Course) → is_none (pending proposing c.agent) ≡ false → (course_of (one_wave with_learning proposing c)).agent ≡ halting (wave_from proposing c.agent)
wave_turn proposing c works = go (is_none (pending proposing c.agent)) works
  where
    turn : (b : Bool) → (course_of (turn_by b (then_step c (wave_from proposing c.agent)))).agent ≡ halting (wave_from proposing c.agent)
    turn true = refl
    turn false = refl

    go : (b : Bool) → b ≡ false
        → (course_of (elim b as (λ x. Turn Course) [ true ↦ ends c | false ↦ turn_by (wave_from proposing c.agent).halted (then_step c (wave_from proposing c.agent)) ])).agent
        ≡ halting (wave_from proposing c.agent)
    go true is = absurd (cc)
    go false is = turn ((wave_from proposing c.agent).halted)

wave_follows : (a : Agent) (m : Moment) → IsFollowed a m → agent_at (next_wave m) a ≡ halting (wave_from m.proposing (agent_at m a))
wave_follows a m follows =
    ap (λ (c : Course). c.agent) (turn_more (one_wave with_learning m.proposing) m.waves (still (phase_at m a)) follows.goes)
    ∙ wave_turn m.proposing (course_of (first_waves m.proposing m.waves (phase_at m a))) follows.works

-- what a wave has learned is there when it ends
learned_later : (b : Agent) (work : Work) → IsNumberedProgram b.program → Later (worked with_learning b work).program (wave_of with_learning b work).agent.program
unfolding wave_of
learned_later b work h =
    let before : BeforeWave = before_wave b in
    let fired : Wave = with_firings before (first_wave b) work.fired in
    let is : fired.program ≡ b.program = firings_same before (first_wave b) work.fired in
    (work_stays b work.retracted (worked with_learning b work) (learning_stays before fired (subst IsNumberedProgram (sym is) h)).numbered).0

pub learned_lasts : LearnedLasts
learned_lasts cycles a m l r h follows within joins high there of_rule =
    let b : Agent = agent_at m a in
    let work : Work = pending m.proposing b in
    let before : BeforeWave = before_wave b in
    let fired : Wave = with_firings before (first_wave b) work.fired in
    let learned : Program = (worked with_learning b work).program in
    let end : Program = (after_cycles cycles a).program in
    let numbered : IsNumberedProgram b.program = moment_numbered m a h in
    let is : fired.program ≡ b.program = firings_same before (first_wave b) work.fired in
    let fired_numbered : IsNumberedProgram fired.program = subst IsNumberedProgram (sym is) numbered in
    let found : chain_of_rule learned.chains l.rule ≡ Some l.chain = learned_is_found before fired l fired_numbered joins (subst (λ (q : Program). q.last_rule < l.rule) (sym is) high) in
    let lasts : Later (wave_of with_learning b work).agent.program end =
    subst (λ (t : Agent). Later t.program end) (wave_follows a m follows) (runs_last cycles a (next_wave m) h within).0 in
    let later : Later learned end = later_twice learned (wave_of with_learning b work).agent.program end (learned_later b work numbered) lasts in
    let given : l.rule ≤ learned.last_rule = (learning_stays before fired fired_numbered).numbered.explained l joins in
    elim (later.rules r there) [
      | inl stayed ↦ stayed.same ∙ (subst (λ n. chain_of_rule learned.chains n ≡ Some l.chain) (sym of_rule) found)
      | inr new ↦ absurd (let no : ⊥ = omega (arith, new, given, of_rule) in no)
    ]
