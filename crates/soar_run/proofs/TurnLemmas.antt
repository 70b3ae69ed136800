-- Cycles behind a course: none where the agent is halted, else one and those behind it.
use Rattle.std.proofs.Common.{◌≡◌, ℕ, zero, suc, Bool, true, false, List, [], ◌++◌, refl, sym, ap, ◌∙◌, append_assoc, append-nil}
use Rattle.soar_rule.specs.Repeat.{Turn, ends, goes_on, turns}
use Rattle.defs_soar.specs.Agents.{Agent}
use Rattle.defs_soar.specs.Cycle.{course_of, one_cycle, run, then_course}
use Rattle.defs_soar.specs.Decision.{decided_by}
use Rattle.defs_soar.specs.Learning.{with_learning}
use Rattle.defs_soar.specs.Phases.{Said, Course, still}
use Rattle.soar_agent.specs.Running.{run_learning}
use Rattle.soar_run.specs.Cycles.{cycle_of, cycles_behind}

-- the turns behind one that was taken
abbrev rest_of : ℕ → Turn Course → Course
rest_of n t = course_of (elim t as (λ _. Turn Course) [ ends b ↦ ends b | goes_on b ↦ turns n (one_cycle decided_by with_learning) b ])

-- the turn that is next, of an agent that is halted or not
abbrev turn_of : Course → Bool → Turn Course
turn_of c halted = elim halted as (λ _. Turn Course) [ true ↦ ends c | false ↦ goes_on (then_course c (cycle_of c.agent)) ]

-- where it is halted, none follows
pub halted_stays : (n : ℕ) (c : Course) → c.agent.halted ≡ true → cycles_behind n c ≡ c
halted_stays zero c halted = refl
halted_stays (suc n) c halted = ap (λ h. rest_of n (turn_of c h)) halted

-- else one and those behind it
pub next_turn : (n : ℕ) (c : Course) → c.agent.halted ≡ false → cycles_behind (suc n) c ≡ cycles_behind n (then_course c (cycle_of c.agent))
next_turn n c goes = ap (λ h. rest_of n (turn_of c h)) goes

-- cycles only add steps
pub turns_more : (n : ℕ) (c : Course) → (more : List Said) × ((cycles_behind n c).steps ≡ c.steps ++ more)
turns_more zero c = ([], sym (append-nil c.steps))
turns_more (suc n) c = by c.agent.halted (turns_more n (then_course c (cycle_of c.agent)))
  where
    by : (h : Bool) → (more : List Said) × ((cycles_behind n (then_course c (cycle_of c.agent))).steps ≡ (c.steps ++ (cycle_of c.agent).steps) ++ more)
        → (more : List Said) × ((rest_of n (turn_of c h)).steps ≡ c.steps ++ more)
    by true later = ([], sym (append-nil c.steps))
    by false later = ((cycle_of c.agent).steps ++ later.0, later.1 ∙ append_assoc c.steps (cycle_of c.agent).steps later.0)

-- a run is the cycles from a state on
pub run_turns : (n : ℕ) (a : Agent) → run_learning n a ≡ cycles_behind n (still a)
unfolding run
run_turns n a = refl
