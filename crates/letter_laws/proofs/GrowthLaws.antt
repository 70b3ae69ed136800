-- The last number of each letter stays or rises, through waves, decisions and whole cycles.
use Rattle.std.proofs.Common.{◌≡◌, refl, sym, subst, ℕ, zero, suc, ◌+◌, ◌≤◌, nat_lt, Bool, true, false, ◌||◌, cond, inl, inr, arith, List, [], ◌∷◌, length, None}
use Rattle.soar_sym.specs.Letters.{last_of}
use Rattle.soar_sym.specs.declared.symbol.Sym.TheVariants.{Ident, Word, Int}
use Rattle.soar_rule.specs.Repeat.{ends, goes_on, Turn, turns}
use Rattle.defs_soar.specs.declared.goal.Goal.{Goal}
use Rattle.defs_soar.specs.Agents.{Agent}
use Rattle.defs_soar.specs.Cycle.{after_input, after_output, begun, cut_line, cycle, then_application, then_course, then_decision, then_phase, unless_halted}
use Rattle.defs_soar.specs.Decision.{after_limit, after_substate, after_walk, decided_by, view_of}
use Rattle.defs_soar.specs.Events.{Part, application_phase, proposal_phase}
use Rattle.defs_soar.specs.Laws.{IsIn}
use Rattle.defs_soar.specs.Learning.{with_learning}
use Rattle.defs_soar.specs.Pending.{depth_of, Firable, is_none, is_of_operator_kind, pending}
use Rattle.defs_soar.specs.Phases.{Course, halting, one_wave, phase, phased_by, still, then_step, turn_by}
use Rattle.defs_soar.specs.Resettling.{AgentStep, resettled}
use Rattle.defs_soar.specs.Walk.{Decided, meets, selects_operator, walked}
use Rattle.defs_soar.specs.WaveAtHand.{Wave}
use Rattle.defs_soar.specs.WaveFirings.{first_wave, firing_of_work, fresh_firing, made_in, before_wave, with_firing, with_firings}
use Rattle.defs_soar.specs.Waves.{wave_of}
use Rattle.learning_laws.specs.LawfulAgents.{IsLawfulAgent}
use Rattle.learning_laws.specs.LawfulWaves.{IsLawfulWave}
use Rattle.learning_laws.proofs.DecideLaws.{decision_keeps}
use Rattle.learning_laws.proofs.FiringsLaws.{fires_on, MayFire, more, pending_fires}
use Rattle.learning_laws.proofs.FoundedLaws.{input_keeps, output_keeps}
use Rattle.learning_laws.proofs.NewIdentifiers.{last_grows}
use Rattle.learning_laws.proofs.RunLaws.{learning_keeps, waves_keep}
use Rattle.learning_laws.proofs.WorkLaws.{waves_begin}
use Rattle.agent_laws.specs.NewGoals.{IsOfGoals}
use Rattle.agent_laws.proofs.FreshGoals.{and_fired, at_depth, learning_keeps_goals}
use Rattle.letter_laws.specs.Grows.{CyclesGrow, DecisionsGrow, GivenStayGiven, IdentifiersGrow, LettersGrow, SettlingGivesNone, WavesGrow}

pub given_stay_given : GivenStayGiven
given_stay_given old new (Ident l n) h k = let low : n ≤ last_of old l = k in let high : last_of old l ≤ last_of new l = h l in omega arith
given_stay_given old new (Word n) h k = tt
given_stay_given old new (Int z) h k = tt

pub identifiers_grow : IdentifiersGrow
identifiers_grow letters letter long low high l = last_grows letters letter l (last_of letters letter + 1) long high (omega arith)

pub settling_gives_none : SettlingGivesNone
unfolding resettled
settling_gives_none a t = refl

itself : (letters : List ℕ) → LettersGrow letters letters
itself letters l = let n : ℕ = last_of letters l in same n
  where
    same : (n : ℕ) → n ≤ n
    same n = omega arith

then_more : (first second third : List ℕ) → LettersGrow first second → LettersGrow second third → LettersGrow first third
then_more first second third h k l = let low : last_of first l ≤ last_of second l = h l in let high : last_of second l ≤ last_of third l = k l in omega arith

-- ---- waves

abbrev Grows : Agent → Wave → Type 0
Grows a w = LettersGrow a.names.letters w.names.letters

-- the firings of a wave are of goals that there are, and letters grow
fired_grow : (a : Agent) (w : Wave) (xs : List Firable) → IsLawfulAgent a → IsLawfulWave a w → w.program.rules ≡ a.program.rules → ((x : Firable) → IsIn x xs → MayFire a x) → Grows a w
    → IsOfGoals a.holding.goals w.names.letters w → Grows a (with_firings (before_wave a) w xs) × IsOfGoals a.holding.goals (with_firings (before_wave a) w xs).names.letters (with_firings (before_wave a) w xs)
unfolding with_firings
fired_grow a w [] h k same all grows is = (grows, is)
fired_grow a w (x ∷ xs) h k same all grows is =
    let one = all x (inl refl) in
    let there = subst (λ l. IsIn one.rule l) (sym same) one.there in
    let v = with_firing (before_wave a) w x in
    fired_grow a v xs h
    (subst (λ y. IsLawfulWave a (with_firing (before_wave a) w y)) one.is (fires_on a w one.rule one.instance h k there one.fires one.matches)) same (λ y j. all y (inr j))
    (subst (λ y. Grows a (with_firing (before_wave a) w y)) one.is (λ l. let low : last_of a.names.letters l ≤ last_of w.names.letters l = grows l in let high = (more a w one.rule one.instance h k there one.fires one.matches).letters l in omega arith))
    (record {
      letters_are = refl;
      goals_are =
          and_fired a.holding.goals w.entries (fresh_firing (before_wave a) (firing_of_work (before_wave a) w x (made_in w (before_wave a) x)) (is_of_operator_kind a.holding.goals x) (made_in w (before_wave a) x)) is.goals_are
          (λ s q. at_depth (depth_of a.holding.goals x) a.holding.goals s q);
    })

pub waves_grow : WavesGrow
unfolding wave_of resettled
waves_grow a proposing h l =
    let fired = with_firings (before_wave a) (first_wave a) (pending proposing a).fired in
    let start = fired_grow a (first_wave a) (pending proposing a).fired h (waves_begin a h) refl (λ x i. pending_fires a proposing x i) (itself a.names.letters)
    (record { letters_are = refl; goals_are = λ x s i q. absurd i }) in
    subst (λ letters. last_of a.names.letters l ≤ last_of letters l) (sym (learning_keeps_goals (before_wave a) fired.names.letters fired start.1).letters_are) (start.0 l)

-- ---- decisions

walk_grows : (a : Agent) (goals : List Goal) (d : Decided) → IsLawfulAgent a → LettersGrow a.names.letters (after_walk a (record { goals = goals; decided = d })).agent.names.letters
unfolding resettled
walk_grows a goals (selects_operator operator takes) h = itself a.names.letters
walk_grows a goals (meets why items) h = go (nat_lt (length goals) 100)
  where
    go : (b : Bool) → LettersGrow a.names.letters (cond b (after_substate a goals why items) (after_limit a goals)).agent.names.letters
    go true = identifiers_grow a.names.letters 83 h.founded.symbols.letters (omega arith) (omega arith)
    go false = itself a.names.letters

pub decisions_grow : DecisionsGrow
unfolding decided_by
decisions_grow a h = let end = walked (view_of a) None a.holding.goals in walk_grows a end.goals end.decided h

-- ---- phases and cycles

module _ (letters : List ℕ) where
  -- lawful, with all identifiers that there were
  abbrev Goes : Agent → Type 0
  Goes a = IsLawfulAgent a × LettersGrow letters a.names.letters

  halted_same : (a : Agent) (b : Bool) → Goes a → Goes (record a { halted = b })
  halted_same a b h = (record { founded = h.0.founded; held_up = record { held = h.0.held_up.held; marks = h.0.held_up.marks; flags = h.0.held_up.flags; candidates = h.0.held_up.candidates } }, h.1)

  step_goes : (s : AgentStep) → Goes s.agent → Goes (halting s)
  step_goes s h = halted_same s.agent (s.agent.halted || s.halted) h

  abbrev TurnGoes : Turn Course → Type 0
  TurnGoes (ends c) = Goes c.agent
  TurnGoes (goes_on c) = Goes c.agent

  turns_go : (step : Course → Turn Course) → ((c : Course) → Goes c.agent → TurnGoes (step c)) → (n : ℕ) (c : Course) → Goes c.agent → TurnGoes (turns n step c)
  turns_go step keeps zero c h = h
  turns_go step keeps (suc n) c h = go (step c) (keeps c h) (turns_go step keeps n)
    where
      go : (t : Turn Course) → TurnGoes t → ((d : Course) → Goes d.agent → TurnGoes (turns n step d)) → TurnGoes (elim t [ ends b ↦ ends b | goes_on b ↦ turns n step b ])
      go (ends b) k later = k
      go (goes_on b) k later = later b k

  wave_goes : (proposing : Bool) (a : Agent) → Goes a → Goes (wave_of with_learning a (pending proposing a)).agent
  wave_goes proposing a h = (waves_keep with_learning learning_keeps a proposing h.0, then_more letters a.names.letters (wave_of with_learning a (pending proposing a)).agent.names.letters h.1 (waves_grow a proposing h.0))

  one_wave_goes : (proposing : Bool) (c : Course) → Goes c.agent → TurnGoes (one_wave with_learning proposing c)
  one_wave_goes proposing c h = go (is_none (pending proposing c.agent))
    where
      turn : (b : Bool) → TurnGoes (turn_by b (then_step c (wave_of with_learning c.agent (pending proposing c.agent))))
      turn true = step_goes (wave_of with_learning c.agent (pending proposing c.agent)) (wave_goes proposing c.agent h)
      turn false = step_goes (wave_of with_learning c.agent (pending proposing c.agent)) (wave_goes proposing c.agent h)

      go : (b : Bool) → TurnGoes (elim b [
        | true ↦ ends c
        | false ↦ turn_by (wave_of with_learning c.agent (pending proposing c.agent)).halted (then_step c (wave_of with_learning c.agent (pending proposing c.agent)))
      ])
      go true = h
      go false = turn ((wave_of with_learning c.agent (pending proposing c.agent)).halted)

  phase_goes : (proposing : Bool) (a : Agent) → Goes a → Goes (phase with_learning proposing a).course.agent
  unfolding phase
  phase_goes proposing a h = go (turns a.settings.max_elaborations (one_wave with_learning proposing) (still a)) (turns_go (one_wave with_learning proposing) (one_wave_goes proposing) a.settings.max_elaborations (still a) h)
    where
      go : (t : Turn Course) → TurnGoes t → Goes (phased_by proposing t).course.agent
      go (ends c) k = k
      go (goes_on c) k = k

  then_phase_goes : (part : Part) (proposing : Bool) (c : Course) → Goes c.agent → Goes (then_phase with_learning part proposing c).agent
  then_phase_goes part proposing c h = go ((phase with_learning proposing c.agent).is_cut)
    where
      go : (b : Bool) → Goes (cut_line part b (then_course (begun part c) (phase with_learning proposing c.agent).course)).agent
      go true = phase_goes proposing c.agent h
      go false = phase_goes proposing c.agent h

  unless_goes : (f : Course → Course) → ((c : Course) → Goes c.agent → Goes (f c).agent) → (c : Course) → Goes c.agent → Goes (unless_halted f c).agent
  unless_goes f keeps c h = go (c.agent.halted)
    where
      go : (b : Bool) → Goes (elim b as (λ x. Course) [ true ↦ c | false ↦ f c ]).agent
      go true = h
      go false = keeps c h

  decision_goes : (a : Agent) → Goes a → Goes (decided_by a).agent
  decision_goes a h = (decision_keeps a h.0, then_more letters a.names.letters (decided_by a).agent.names.letters h.1 (decisions_grow a h.0))

  input_goes : (a : Agent) → Goes a → Goes (after_input a).agent
  unfolding after_input resettled
  input_goes a h = (input_keeps a h.0, h.1)

  output_goes : (a : Agent) → Goes a → Goes (after_output a).agent
  unfolding after_output
  output_goes a h = (output_keeps a h.0, h.1)

  cycle_goes : (a : Agent) → Goes a → Goes (cycle decided_by with_learning a).agent
  unfolding cycle
  cycle_goes a h =
      let input = then_step (still a) (after_input a) in
      let proposed = then_phase with_learning proposal_phase true input in
      let decided = unless_halted (then_decision decided_by) proposed in
      let applied = unless_halted (then_application with_learning) decided in
      let h1 = step_goes (after_input a) (input_goes a h) in
      let h2 = then_phase_goes proposal_phase true input h1 in
      let h3 = unless_goes (then_decision decided_by) (λ c k. step_goes (decided_by c.agent) (decision_goes c.agent k)) proposed h2 in
      let h4 = unless_goes (then_application with_learning) (λ c k. then_phase_goes application_phase false c k) decided h3 in
      step_goes (after_output applied.agent) (output_goes applied.agent h4)

pub cycles_grow : CyclesGrow
cycles_grow a h = (cycle_goes a.names.letters a (h, itself a.names.letters)).1
