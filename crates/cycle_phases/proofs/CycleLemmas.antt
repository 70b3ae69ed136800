-- A cycle, phase by phase.
use Rattle.std.proofs.Common.{◌≡◌, ℕ, ◌∙◌, Bool, true, false, List, [], ◌∷◌, ◌++◌, append-nil, append_assoc, Result, Ok, Err, refl, sym, ap, subst}
use Rattle.soar_sym.specs.Words.{Texts}
use Rattle.defs_soar.specs.Agents.{Agent}
use Rattle.defs_soar.specs.Cycle.{after_output, begun, cut_line, cycle, then_application, then_course, then_decision, then_output, then_phase, told_alone, unless_halted}
use Rattle.defs_soar.specs.Decision.{decided_by}
use Rattle.defs_soar.specs.Events.{Event, Part, application_phase, begins, is_cut, proposal_phase}
use Rattle.defs_soar.specs.Learning.{with_learning}
use Rattle.defs_soar.specs.Phases.{Course, Phased, Said, phase, said_by, still, then_step}
use Rattle.defs_soar.specs.Resettling.{AgentStep}
use Rattle.defs_soar.specs.Trace.{Written, pieces_of, rendered}
use Rattle.soar_settle.specs.declared.stop.Stop.{Stop}
use Rattle.soar_settle.specs.declared.stop.Stop.TheVariants as stop
use Rattle.trace_lines.specs.Saying.{part_of}
use Rattle.trace_lines.specs.declared.halting.Phase.{Phase}
use Rattle.cycle_parts.specs.Saying.{SaysEvents}
use Rattle.cycle_parts.specs.Stands.{Stands}
use Rattle.cycle_parts.specs.Parts.{Parts as PartsKept}
use Rattle.cycle_parts.specs.SettingsType.{Settings}
use Rattle.cycle_parts.specs.Stepping.{GoesStep}
use Rattle.cycle_parts.specs.Waving.{is_proposing}
use Rattle.cycle_phases.specs.Courses.{Goes, Went, phase_course, phased}
use Rattle.cycle_phases.specs.Cycling.{GoesOn, with_application, with_decision, with_input, with_proposals}
use Rattle.cycle_phases.specs.Going.{GoesPhase, cut_events}
use Rattle.cycle_phases.proofs.CourseLemmas.{course_by, goes_then, nothing, passed_more, step_goes, stopped_more, went_stops, went_then}

-- ---- steps are added, and none is taken away

abbrev pub Extends : (Course → Course) → Type 0
Extends f = (c : Course) → (more : List Said) × ((f c).steps ≡ c.steps ++ more)

extends_cut : (part : Part) (cut : Bool) (c : Course) → (more : List Said) × ((cut_line part cut c).steps ≡ c.steps ++ more)
extends_cut part true c = (told_alone c.agent.names.words (is_cut part) ∷ [], refl)
extends_cut part false c = ([], sym (append-nil c.steps))

pub phase_extends : (part : Part) (proposing : Bool) → Extends (then_phase with_learning part proposing)
phase_extends part proposing c =
    let p : Phased = phase with_learning proposing c.agent in
    let begin : List Said = told_alone c.agent.names.words (begins part) ∷ [] in
    let cut = extends_cut part p.is_cut (then_course (begun part c) p.course) in (
      begin ++ (p.course.steps ++ cut.0),
      cut.1 ∙ append_assoc (c.steps ++ begin) p.course.steps cut.0 ∙ append_assoc c.steps begin (p.course.steps ++ cut.0),
    )

pub unless_extends : (f : Course → Course) → Extends f → Extends (unless_halted f)
unless_extends f extends c = by (c.agent.halted)
  where
    by : (halted : Bool) → (more : List Said) × ((elim halted as (λ _. Course) [ true ↦ c | false ↦ f c ]).steps ≡ c.steps ++ more)
    by true = ([], sym (append-nil c.steps))
    by false = extends c

pub step_extends : (f : Agent → AgentStep) → Extends (λ c. then_step c (f c.agent))
step_extends f c = (said_by (f c.agent) ∷ [], refl)

pub extends_then : (f g : Course → Course) → Extends f → Extends g → Extends (λ c. g (f c))
extends_then f g first second c =
    let a = first c in let b = second (f c) in (a.0 ++ b.0, b.1 ∙ ap (λ steps. steps ++ b.0) a.1 ∙ append_assoc c.steps a.0 b.0)

-- ---- a phase behind other steps

cut_behind : (part : Part) (cut : Bool) (c d : Course) → cut_line part cut (then_course c d) ≡ then_course c (cut_line part cut d)
cut_behind part true c d =
    ap (λ (steps : List Said). record { agent = d.agent; steps = steps }) (append_assoc c.steps d.steps (told_alone d.agent.names.words (is_cut part) ∷ []))
cut_behind part false c d = refl

begun_behind : (part : Part) (c d : Course) → then_course (begun part c) d ≡ then_course c (then_course (begun part (still c.agent)) d)
begun_behind part c d =
    ap (λ (steps : List Said). record { agent = d.agent; steps = steps }) (append_assoc c.steps (told_alone c.agent.names.words (begins part) ∷ []) d.steps)

pub phase_behind : (part : Part) (proposing : Bool) (c : Course) → then_phase with_learning part proposing c ≡ then_course c (then_phase with_learning part proposing (still c.agent))
phase_behind part proposing c =
    let p : Phased = phase with_learning proposing c.agent in
    ap (cut_line part p.is_cut) (begun_behind part c p.course) ∙ cut_behind part p.is_cut c (then_course (begun part (still c.agent)) p.course)

-- ---- the lines of a phase

-- a course of one event, which drew nothing
abbrev told_course : Agent → Event → Course
told_course s e = record { agent = s; steps = told_alone s.names.words e ∷ [] }

told_went : (watch : ℕ) (mid new_mid : Bool) (s : Agent) (e : Event) (now : PartsKept) (before after : List ℕ) → Stands now s
    → SaysEvents watch now.table (e ∷ []) mid before new_mid after → Went watch mid (told_course s e) now new_mid before after
told_went watch mid new_mid s e now before after stands says =
    let written : Written = rendered watch mid (pieces_of s.names.words (e ∷ [])) in
    let said : SaysEvents watch s.names.words (e ∷ []) mid before new_mid after = subst (λ (words : Texts). SaysEvents watch words (e ∷ []) mid before new_mid after) stands.words says in
    record { stands = stands; within = refl; text = said.0 ∙ ap (λ t. before ++ t) (sym (append-nil written.text)); mid_line = said.1 }

-- nothing is said where a phase is not cut
unsaid : (watch : ℕ) (words : Texts) (mid : Bool) → rendered watch mid (pieces_of words []) ≡ nothing mid
unfolding pieces_of
unsaid watch words mid = refl

pub uncut : (watch : ℕ) (words : Texts) (part : Part) (cut mid : Bool) (text : List ℕ) → cut ≡ false → SaysEvents watch words (cut_events part cut) mid text mid text
unfolding pieces_of
uncut watch words part cut mid text is = subst (λ (b : Bool). SaysEvents watch words (cut_events part b) mid text mid text) (sym is) (sym (append-nil text), refl)

cut_went : (watch : ℕ) (mid middle new_mid : Bool) (part : Part) (cut : Bool) (c : Course) (now : PartsKept) (before between after : List ℕ) → Went watch mid c now middle before between
    → SaysEvents watch now.table (cut_events part cut) middle between new_mid after → Went watch mid (cut_line part cut c) now new_mid before after
cut_went watch mid middle new_mid part true c now before between after went says =
    went_then watch mid middle new_mid c (told_course c.agent (is_cut part)) now now before between after went
    (told_went watch middle new_mid c.agent (is_cut part) now between after went.stands says)
cut_went watch mid middle new_mid part false c now before between after went says =
    let same : after ≡ between = says.0 ∙ ap (λ (w : Written). between ++ w.text) (unsaid watch now.table middle) ∙ append-nil between in
    record {
      stands = went.stands;
      within = went.within;
      text = same ∙ went.text;
      mid_line = says.1 ∙ ap (λ (w : Written). w.mid_line) (unsaid watch now.table middle) ∙ went.mid_line;
    }

-- the line that begins a phase, and its waves
abbrev pub begun_waves : Phase → Agent → Course
begun_waves part s = then_course (begun (part_of part) (still s)) (phased part s).course

pub phase_went : (watch : ℕ) (part : Phase) (s : Agent) (old new : PartsKept) (mid begun_mid waved_mid new_mid : Bool) (before began waved after : List ℕ) (cut : Bool) → Stands old s
    → new.settings.watch ≡ watch → SaysEvents watch old.table (begins (part_of part) ∷ []) mid before begun_mid began
    → GoesPhase watch begun_mid (phased part s) new waved_mid began waved (Ok cut)
    → SaysEvents new.settings.watch new.table (cut_events (part_of part) cut) waved_mid waved new_mid after → Went watch mid (phase_course part s) new new_mid before after
phase_went watch part s old new mid begun_mid waved_mid new_mid before began waved after cut stands level begin_said goes end_said =
    let begin : Went watch mid (told_course s (begins (part_of part))) old begun_mid before began =
    told_went watch mid begun_mid s (begins (part_of part)) old before began stands begin_said in
    let end : SaysEvents watch new.table (cut_events (part_of part) cut) waved_mid waved new_mid after =
    subst (λ (w : ℕ). SaysEvents w new.table (cut_events (part_of part) cut) waved_mid waved new_mid after) level end_said in
    subst (λ (b : Bool). Went watch mid (cut_line (part_of part) b (begun_waves part s)) new new_mid before after) goes.1
    (cut_went watch mid waved_mid new_mid (part_of part) cut (begun_waves part s) new before waved after
    (went_then watch mid begun_mid waved_mid (told_course s (begins (part_of part))) (phased part s).course old new before began waved begin goes.0) end)

pub phase_stops : (T : Type 0) (watch : ℕ) (part : Phase) (s : Agent) (old new : PartsKept) (mid begun_mid new_mid : Bool) (before began after : List ℕ) (why : Stop) → Stands old s
    → SaysEvents watch old.table (begins (part_of part) ∷ []) mid before begun_mid began → GoesPhase watch begun_mid (phased part s) new new_mid began after (Err why)
    → Goes {T = T} watch mid (phase_course part s) new new_mid before after (Err why)
phase_stops T watch part s old new mid begun_mid new_mid before began after (stop.Limit limit) stands says goes =
    let more = extends_cut (part_of part) (phased part s).is_cut (begun_waves part s) in
    passed_more watch mid new_mid (begun_waves part s) (phase_course part s) more.0 before after limit more.1
    (went_stops watch mid begun_mid new_mid (told_course s (begins (part_of part))) (phased part s).course old before began after limit
    (told_went watch mid begun_mid s (begins (part_of part)) old before began stands says) goes)
phase_stops T watch part s old new mid begun_mid new_mid before began after stop.NoMemory stands says goes = tt

-- ---- each phase behind a course

-- a step of the agent behind a course
pub step_on : {T : Type 0} (f : Agent → AgentStep) (old new : PartsKept) (old_mid new_mid : Bool) (between after : List ℕ) (result : Result T Stop)
    → ((s : Agent) → Stands old s → GoesStep old.settings.watch old_mid (f s) new new_mid between after result)
    → (watch : ℕ) → GoesOn watch (λ c. then_step c (f c.agent)) old new old_mid new_mid between after result
step_on f old new old_mid new_mid between after result goes watch level mid c before went =
    goes_then watch mid old_mid new_mid c (course_by (f c.agent)) old new before between after result went
    (step_goes watch old_mid (f c.agent) new new_mid between after result
    (subst (λ (w : ℕ). GoesStep w old_mid (f c.agent) new new_mid between after result) level (goes c.agent went.stands)))

pub phase_on : {T : Type 0} (part : Phase) (old new : PartsKept) (old_mid new_mid : Bool) (between after : List ℕ) (result : Result T Stop)
    → ((s : Agent) → Stands old s → Goes old.settings.watch old_mid (phase_course part s) new new_mid between after result)
    → (watch : ℕ) → GoesOn watch (then_phase with_learning (part_of part) (is_proposing part)) old new old_mid new_mid between after result
phase_on part old new old_mid new_mid between after result goes watch level mid c before went =
    subst (λ (d : Course). Goes watch mid d new new_mid before after result) (sym (phase_behind (part_of part) (is_proposing part) c))
    (goes_then watch mid old_mid new_mid c (phase_course part c.agent) old new before between after result went
    (subst (λ (w : ℕ). Goes w old_mid (phase_course part c.agent) new new_mid between after result) level (goes c.agent went.stands)))

-- a halted agent is left as it is
pub unless_on : {T : Type 0} (f : Course → Course) (old new : PartsKept) (old_mid new_mid : Bool) (between after : List ℕ) (result : Result T Stop) → old.halted ≡ false
    → ((watch : ℕ) → GoesOn watch f old new old_mid new_mid between after result) → (watch : ℕ) → GoesOn watch (unless_halted f) old new old_mid new_mid between after result
unless_on f old new old_mid new_mid between after result going goes watch level mid c before went =
    let halted : c.agent.halted ≡ false = sym went.stands.halted ∙ going in
    subst (λ (d : Course). Goes watch mid d new new_mid before after result) (sym (ap (λ h. elim h as (λ _. Course) [ true ↦ c | false ↦ f c ]) halted)) (goes watch level mid c before went)

pub left_out : {T : Type 0} (done : T) (f : Course → Course) (old : PartsKept) (old_mid : Bool) (between : List ℕ) → old.halted ≡ true
    → (watch : ℕ) → GoesOn {T = T} watch (unless_halted f) old old old_mid old_mid between between (Ok done)
left_out done f old old_mid between halts watch level mid c before went =
    let halted : c.agent.halted ≡ true = sym went.stands.halted ∙ halts in
    subst (λ (d : Course). Went watch mid d old old_mid before between) (sym (ap (λ h. elim h as (λ _. Course) [ true ↦ c | false ↦ f c ]) halted)) went

-- the level that was set stays
pub same_level : (now then : Settings) → now ≡ then → now.watch ≡ then.watch
same_level now then is = ap (λ (x : Settings). x.watch) is

-- ---- the cycle

abbrev pub whole : Course → Course
whole c = then_output (with_application (with_decision (with_proposals (with_input c))))

pub cycle_is : (s : Agent) → cycle decided_by with_learning s ≡ whole (still s)
unfolding cycle
cycle_is s = refl

-- ---- what an error leaves

pub other_answer : (S T : Type 0) (watch : ℕ) (f : Course → Course) (old new : PartsKept) (old_mid new_mid : Bool) (between after : List ℕ) (why : Stop)
    → GoesOn {T = S} watch f old new old_mid new_mid between after (Err why) → GoesOn {T = T} watch f old new old_mid new_mid between after (Err why)
other_answer S T watch f old new old_mid new_mid between after (stop.Limit limit) goes level mid c before went = goes level mid c before went
other_answer S T watch f old new old_mid new_mid between after stop.NoMemory goes level mid c before went = tt

-- after a phase that stopped, the others change nothing
pub stopped_on : (S T : Type 0) (watch : ℕ) (f g : Course → Course) → Extends g → (mid : Bool) (c : Course) (old new : PartsKept) (old_mid new_mid : Bool) (before between after : List ℕ) (why : Stop)
    → old.settings.watch ≡ watch → Went watch mid c old old_mid before between → GoesOn {T = S} watch f old new old_mid new_mid between after (Err why)
    → Goes {T = T} watch mid (g (f c)) new new_mid before after (Err why)
stopped_on S T watch f g extends mid c old new old_mid new_mid before between after why level went goes =
    let more = extends (f c) in stopped_more S T watch mid new_mid (f c) (g (f c)) more.0 new new before after why more.1 (goes level mid c before went)

pub after_output_extends : Extends then_output
after_output_extends = step_extends after_output

pub after_decision : Extends (λ c. then_output (with_application c))
after_decision = extends_then with_application then_output (unless_extends (then_application with_learning) (phase_extends application_phase false)) after_output_extends

pub after_proposals : Extends (λ c. then_output (with_application (with_decision c)))
after_proposals = extends_then with_decision (λ c. then_output (with_application c)) (unless_extends (then_decision decided_by) (step_extends decided_by)) after_decision

pub after_inputs : Extends (λ c. then_output (with_application (with_decision (with_proposals c))))
after_inputs = extends_then with_proposals (λ c. then_output (with_application (with_decision c))) (phase_extends proposal_phase true) after_proposals

pub nothing_after : Extends (λ c. c)
nothing_after c = ([], sym (append-nil c.steps))

-- the same of an answer that is such an error
pub stopped_with : {T : Type 0} (watch : ℕ) (mid : Bool) (c : Course) (g f : Course → Course) → Extends g → (old new : PartsKept) (old_mid new_mid : Bool) (before between after : List ℕ) (why : Stop)
    (result : Result T Stop) → result ≡ Err why → old.settings.watch ≡ watch → Went watch mid c old old_mid before between
    → GoesOn {T = Unit {0}} watch f old new old_mid new_mid between after (Err why) → Goes watch mid (g (f c)) new new_mid before after result
stopped_with {T} watch mid c g f extends old new old_mid new_mid before between after why result is level went goes =
    subst (λ (answer : Result T Stop). Goes watch mid (g (f c)) new new_mid before after answer) (sym is)
    (stopped_on (Unit {0}) T watch f g extends mid c old new old_mid new_mid before between after why level went goes)

pub of_cycle : {T : Type 0} (watch : ℕ) (s : Agent) (new : PartsKept) (mid new_mid : Bool) (before after : List ℕ) (result : Result T Stop)
    → Goes watch mid (whole (still s)) new new_mid before after result → Goes watch mid (cycle decided_by with_learning s) new new_mid before after result
of_cycle {T} watch s new mid new_mid before after result goes = subst (λ (c : Course). Goes watch mid c new new_mid before after result) (sym (cycle_is s)) goes
