-- The cycle: input, proposal, decision, application, output (Soar manual, chapter 2, execution cycle).
use Rattle.std.specs.Prelude.{ℕ, suc, Bool, true, false, ◌&&◌, not, List, [], ◌∷◌, ◌++◌, map, filter, if◌then◌else◌}
use Rattle.soar_sym.specs.Words.{Texts}
use Rattle.soar_sym.specs.declared.symbol.Triple.{Triple}
use Rattle.soar_rule.specs.Repeat.{Turn, ends, goes_on, turns}
use Rattle.defs_match.specs.WorkingMemory.{triple_of}
use Rattle.defs_soar.specs.Agents.{Agent, Queued}
use Rattle.defs_soar.specs.Architecture.{output_identifier}
use Rattle.defs_soar.specs.Events.{Part, input_phase, proposal_phase, application_phase, output_phase, Event, begins, is_cut, shows_no_longer, shows, halts}
use Rattle.defs_soar.specs.Goals.{goal_ids, is_goal}
use Rattle.defs_soar.specs.Levels.{reached_from}
use Rattle.defs_soar.specs.Limits.{counts_to}
use Rattle.defs_soar.specs.Phases.{Said, Course, then_step, still, phase}
use Rattle.defs_soar.specs.Resettling.{AgentStep, resettled}
use Rattle.defs_soar.specs.Sorted.{has_symbol, in_order}
use Rattle.defs_soar.specs.Trimming.{Remains}
use Rattle.defs_soar.specs.Values.{triple_eq, has_triple_among}
use Rattle.defs_soar.specs.WaveAtHand.{WaveEnd}

-- ---- input

-- adding what is there and removing what is not do nothing
abbrev pub with_change : List Triple → Queued → List Triple
with_change inputs q =
    if q.adds then (if has_triple_among inputs q.triple then inputs else inputs ++ q.triple ∷ []) else filter (λ t. not (triple_eq t q.triple)) inputs

abbrev pub with_changes : List Triple → List Queued → List Triple
with_changes inputs [] = inputs
with_changes inputs (q ∷ changes) = with_changes (with_change inputs q) changes

abbrev pub held_with : Agent → List Triple → Remains
held_with a inputs = record { goals = a.holding.goals; rows = a.holding.rows; inputs = inputs; live = a.holding.live; removed = [] }

-- the queued changes in order; the number of the cycle rises by one
unfoldable pub after_input : Agent → AgentStep
after_input a =
    let cycle_number = suc a.counts.cycles in
    let next : Agent = record a { counts = record a.counts { cycles = cycle_number; learned = 0 }; queues = record a.queues { input = [] } } in
    let s = resettled next (held_with a (with_changes a.holding.inputs a.queues.input)) in
    record s { events = begins input_phase ∷ s.events; totals = counts_to cycle_number ∷ s.totals }

-- ---- output

-- what walks from the output link reach, its own elements included; a goal's elements are not among them
abbrev pub output_of : Agent → List Triple
output_of a =
    let reached = reached_from (goal_ids a.holding.goals) (map triple_of a.holding.elements) output_identifier in
    map triple_of (filter (λ e. has_symbol reached e.id && not (is_goal a.holding.goals e.id)) a.holding.elements)

abbrev pub without_triples : List Triple → List Triple → List Triple
without_triples others triples = filter (λ t. not (has_triple_among others t)) triples

-- what the output link shows no longer, then what is new there, each in order of triple
unfoldable pub after_output : Agent → AgentStep
after_output a =
    let now = output_of a in
    record {
      agent = record a { output = now };
      events = begins output_phase
          ∷ (map shows_no_longer (in_order a.names.words (without_triples now a.output))
          ++ (map shows (in_order a.names.words (without_triples a.output now)) ++ (if a.halted then halts ∷ [] else [])));
      totals = [];
      halted = false;
    }

-- ---- phases

abbrev pub told_alone : Texts → Event → Said
told_alone words e = record { words = words; events = e ∷ []; totals = [] }

abbrev pub then_course : Course → Course → Course
then_course c d = record { agent = d.agent; steps = c.steps ++ d.steps }

-- the line that begins a phase of waves belongs to none of them
abbrev pub begun : Part → Course → Course
begun part c = record c { steps = c.steps ++ told_alone c.agent.names.words (begins part) ∷ [] }

abbrev pub cut_line : Part → Bool → Course → Course
cut_line part true c = record c { steps = c.steps ++ told_alone c.agent.names.words (is_cut part) ∷ [] }
cut_line part false c = c

abbrev pub then_phase : WaveEnd → Part → Bool → Course → Course
then_phase end part proposing c = let p = phase end proposing c.agent in cut_line part p.is_cut (then_course (begun part c) p.course)

abbrev pub unless_halted : (Course → Course) → Course → Course
unless_halted f c = elim (c.agent.halted) [ true ↦ c | false ↦ f c ]

-- how an agent decides is an argument, so that a stage may do without substates
abbrev pub then_decision : (Agent → AgentStep) → Course → Course
then_decision deciding c = then_step c (deciding c.agent)

abbrev pub then_application : WaveEnd → Course → Course
then_application end c = then_phase end application_phase false c

abbrev pub then_output : Course → Course
then_output c = then_step c (after_output c.agent)

-- ---- the cycle

-- after a halt the phases before output are left out
unfoldable pub cycle : (Agent → AgentStep) → WaveEnd → Agent → Course
cycle deciding end a =
    then_output (unless_halted (then_application end) (unless_halted (then_decision deciding) (then_phase end proposal_phase true (then_step (still a) (after_input a)))))

abbrev pub one_cycle : (Agent → AgentStep) → WaveEnd → Course → Turn Course
one_cycle deciding end c = elim (c.agent.halted) [ true ↦ ends c | false ↦ goes_on (then_course c (cycle deciding end c.agent)) ]

abbrev pub course_of : Turn Course → Course
course_of (ends c) = c
course_of (goes_on c) = c

-- so many cycles, or until the agent halts
unfoldable pub run : (Agent → AgentStep) → WaveEnd → ℕ → Agent → Course
run deciding end n a = course_of (turns n (one_cycle deciding end) (still a))
