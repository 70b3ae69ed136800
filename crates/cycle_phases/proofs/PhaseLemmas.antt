-- A phase, wave by wave.
use Rattle.std.proofs.Common.{◌≡◌, ℕ, zero, suc, ◌∙◌, Bool, true, false, List, [], ◌∷◌, ◌++◌, append-nil, append_assoc, refl, sym, ap}
use Rattle.soar_rule.specs.Repeat.{Turn, ends, goes_on, turns}
use Rattle.defs_soar.specs.Learning.{with_learning}
use Rattle.defs_soar.specs.Pending.{is_none, pending}
use Rattle.defs_soar.specs.Phases.{Said, Course, said_by, then_step, turn_by, one_wave, phased_by}
use Rattle.defs_soar.specs.Resettling.{AgentStep}
use Rattle.cycle_parts.specs.Waving.{wave_at}

-- ---- a wave of a phase

abbrev pub at_wave : Bool → Course → AgentStep
at_wave proposing c = wave_at proposing c.agent

abbrev turn_of : Bool → Course → Bool → Turn Course
turn_of proposing c none = elim none as (λ _. Turn Course) [ true ↦ ends c | false ↦ turn_by (at_wave proposing c).halted (then_step c (at_wave proposing c)) ]

pub at_rest : (proposing : Bool) (c : Course) → is_none (pending proposing c.agent) ≡ true → one_wave with_learning proposing c ≡ ends c
at_rest proposing c none = ap (turn_of proposing c) none

pub with_wave : (proposing : Bool) (c : Course) (halted : Bool) → is_none (pending proposing c.agent) ≡ false → (at_wave proposing c).halted ≡ halted
    → one_wave with_learning proposing c ≡ turn_by halted (then_step c (at_wave proposing c))
with_wave proposing c halted some is = ap (turn_of proposing c) some ∙ ap (λ b. turn_by b (then_step c (at_wave proposing c))) is

abbrev turned : Bool → ℕ → Turn Course → Turn Course
turned proposing n t = elim t as (λ _. Turn Course) [ ends b ↦ ends b | goes_on b ↦ turns n (one_wave with_learning proposing) b ]

pub turns_by : (proposing : Bool) (n : ℕ) (c : Course) (t : Turn Course) → one_wave with_learning proposing c ≡ t → turns (suc n) (one_wave with_learning proposing) c ≡ turned proposing n t
turns_by proposing n c t is = ap (turned proposing n) is

-- ---- what follows

abbrev pub course_of : Bool → Turn Course → Course
course_of proposing t = (phased_by proposing t).course

-- further waves come behind the steps that there were
goes_behind : (proposing : Bool) (n : ℕ) (c : Course) → (more : List Said) × ((course_of proposing (turns n (one_wave with_learning proposing) c)).steps ≡ c.steps ++ more)
goes_behind proposing zero c = ([], sym (append-nil c.steps))
goes_behind proposing (suc n) c = by (is_none (pending proposing c.agent)) (at_wave proposing c).halted refl refl (goes_behind proposing n (then_step c (at_wave proposing c)))
  where
    by : (none halted : Bool) → is_none (pending proposing c.agent) ≡ none → (at_wave proposing c).halted ≡ halted
        → (more : List Said) × ((course_of proposing (turns n (one_wave with_learning proposing) (then_step c (at_wave proposing c)))).steps ≡ (c.steps ++ said_by (at_wave proposing c) ∷ []) ++ more)
        → (more : List Said) × ((course_of proposing (turns (suc n) (one_wave with_learning proposing) c)).steps ≡ c.steps ++ more)
    by true halted none is later = ([], ap (λ t. (course_of proposing t).steps) (turns_by proposing n c (ends c) (at_rest proposing c none)) ∙ sym (append-nil c.steps))
    by false true some is later =
        (said_by (at_wave proposing c) ∷ [], ap (λ t. (course_of proposing t).steps) (turns_by proposing n c (ends (then_step c (at_wave proposing c))) (with_wave proposing c true some is)))
    by false false some is later = (
      said_by (at_wave proposing c) ∷ later.0,
      ap (λ t. (course_of proposing t).steps) (turns_by proposing n c (goes_on (then_step c (at_wave proposing c))) (with_wave proposing c false some is)) ∙ later.1
          ∙ append_assoc c.steps (said_by (at_wave proposing c) ∷ []) later.0,
    )

-- a wave that something is pending for is among the steps
pub wave_among : (proposing : Bool) (n : ℕ) (c : Course) → is_none (pending proposing c.agent) ≡ false
    → (more : List Said) × ((course_of proposing (turns (suc n) (one_wave with_learning proposing) c)).steps ≡ (then_step c (at_wave proposing c)).steps ++ more)
wave_among proposing n c some = by (at_wave proposing c).halted refl (goes_behind proposing n (then_step c (at_wave proposing c)))
  where
    by : (halted : Bool) → (at_wave proposing c).halted ≡ halted
        → (more : List Said) × ((course_of proposing (turns n (one_wave with_learning proposing) (then_step c (at_wave proposing c)))).steps ≡ (then_step c (at_wave proposing c)).steps ++ more)
        → (more : List Said) × ((course_of proposing (turns (suc n) (one_wave with_learning proposing) c)).steps ≡ (then_step c (at_wave proposing c)).steps ++ more)
    by true is later = (
      [],
      ap (λ t. (course_of proposing t).steps) (turns_by proposing n c (ends (then_step c (at_wave proposing c))) (with_wave proposing c true some is))
          ∙ sym (append-nil (then_step c (at_wave proposing c)).steps),
    )
    by false is later =
        (later.0, ap (λ t. (course_of proposing t).steps) (turns_by proposing n c (goes_on (then_step c (at_wave proposing c))) (with_wave proposing c false some is)) ∙ later.1)
