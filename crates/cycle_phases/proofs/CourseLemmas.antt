-- What courses of steps write, one behind another, and where they stop. Crates above cite this file.
use Rattle.std.proofs.Common.{◌≡◌, ℕ, Bool, List, [], ◌∷◌, ◌++◌, Option, Some, None, Result, Ok, Err, refl, sym, ap, ◌∙◌, append_assoc, append-nil}
use Rattle.defs_soar.specs.declared.limit.Which.{Which}
use Rattle.defs_soar.specs.Agents.{Agent}
use Rattle.defs_soar.specs.Cycle.{then_course}
use Rattle.defs_soar.specs.Limits.{or_limit, first_passed}
use Rattle.defs_soar.specs.Phases.{Said, Course, said_by, still, then_step}
use Rattle.defs_soar.specs.Resettling.{AgentStep}
use Rattle.defs_soar.specs.Trace.{Written, rendered, pieces_of, followed_by}
use Rattle.soar_settle.specs.declared.stop.Stop.{Stop}
use Rattle.soar_settle.specs.declared.stop.Stop.TheVariants as stop
use Rattle.cycle_parts.specs.Stands.{Stands}
use Rattle.cycle_parts.specs.Parts.{Parts as PartsKept}
use Rattle.cycle_parts.specs.Stepping.{GoesStep, StopsStep, WentStep}
use Rattle.cycle_phases.specs.Courses.{Goes, Passed, Went, front_said, limit_in}

-- ---- limits

or_else_assoc : (a b c : Option Which) → or_limit (or_limit a b) c ≡ or_limit a (or_limit b c)
or_else_assoc (Some limit) b c = refl
or_else_assoc None b c = refl

pub limit_append : (first second : List Said) → limit_in (first ++ second) ≡ or_limit (limit_in first) (limit_in second)
limit_append [] second = refl
limit_append (s ∷ first) second =
    ap (or_limit (first_passed s.totals)) (limit_append first second) ∙ sym (or_else_assoc (first_passed s.totals) (limit_in first) (limit_in second))

-- steps behind such as pass no limit
pub limit_behind : (first second : List Said) → limit_in first ≡ None → limit_in (first ++ second) ≡ limit_in second
limit_behind first second none = limit_append first second ∙ ap (λ o. or_limit o (limit_in second)) none

-- ---- what is written, one step after another

-- nothing is written
abbrev pub nothing : Bool → Written
nothing mid = record { text = []; mid_line = mid }

-- what a step writes
abbrev pub said_written : ℕ → Bool → Said → Written
said_written watch mid s = rendered watch mid (pieces_of s.words s.events)

-- one step, unless it passes a limit, and what follows
abbrev pub step_front : Bool → Written → (Bool → Written) → Option Which → Written
step_front mid w later o = elim o as (λ _. Written) [ Some limit ↦ nothing mid | None ↦ followed_by w (later w.mid_line) ]

followed_assoc : (a b c : Written) → followed_by (followed_by a b) c ≡ followed_by a (followed_by b c)
followed_assoc a b c = ap (λ (text : List ℕ). record { text = text; mid_line = c.mid_line }) (append_assoc a.text b.text c.text)

pub front_append : (watch : ℕ) (mid : Bool) (first second : List Said) → limit_in first ≡ None
    → front_said watch mid (first ++ second) ≡ followed_by (front_said watch mid first) (front_said watch (front_said watch mid first).mid_line second)
front_append watch mid [] second none = refl
front_append watch mid (s ∷ first) second none = by (first_passed s.totals) none (λ m n. front_append watch m first second n)
  where
    by : (o : Option Which) → or_limit o (limit_in first) ≡ None
        → ((m : Bool) → limit_in first ≡ None → front_said watch m (first ++ second) ≡ followed_by (front_said watch m first) (front_said watch (front_said watch m first).mid_line second))
        → step_front mid (said_written watch mid s) (λ m. front_said watch m (first ++ second)) o
        ≡ followed_by (step_front mid (said_written watch mid s) (λ m. front_said watch m first) o)
        (front_said watch (step_front mid (said_written watch mid s) (λ m. front_said watch m first) o).mid_line second)
    by (Some limit) n later = absurd (cc)
    by None n later =
        let w : Written = said_written watch mid s in
        ap (followed_by w) (later w.mid_line n) ∙ sym (followed_assoc w (front_said watch w.mid_line first) (front_said watch (front_said watch w.mid_line first).mid_line second))

pub front_stops : (watch : ℕ) (mid : Bool) (first second : List Said) (limit : Which) → limit_in first ≡ Some limit → front_said watch mid (first ++ second) ≡ front_said watch mid first
front_stops watch mid [] second limit some = absurd (cc)
front_stops watch mid (s ∷ first) second limit some = by (first_passed s.totals) some (λ m n. front_stops watch m first second limit n)
  where
    by : (o : Option Which) → or_limit o (limit_in first) ≡ Some limit → ((m : Bool) → limit_in first ≡ Some limit → front_said watch m (first ++ second) ≡ front_said watch m first)
        → step_front mid (said_written watch mid s) (λ m. front_said watch m (first ++ second)) o ≡ step_front mid (said_written watch mid s) (λ m. front_said watch m first) o
    by (Some other) n later = refl
    by None n later = let w : Written = said_written watch mid s in ap (followed_by w) (later w.mid_line n)

-- ---- one step

one_within : (s : Said) → first_passed s.totals ≡ None → limit_in (s ∷ []) ≡ None
one_within s none = ap (λ o. or_limit o None) none

one_passes : (s : Said) (limit : Which) → first_passed s.totals ≡ Some limit → limit_in (s ∷ []) ≡ Some limit
one_passes s limit some = ap (λ o. or_limit o None) some

one_front : (watch : ℕ) (mid : Bool) (s : Said) → first_passed s.totals ≡ None → front_said watch mid (s ∷ []) ≡ said_written watch mid s
one_front watch mid s none =
    ap (step_front mid (said_written watch mid s) nothing) none ∙ ap (λ (t : List ℕ). record { text = t; mid_line = (said_written watch mid s).mid_line }) (append-nil (said_written watch mid s).text)

none_front : (watch : ℕ) (mid : Bool) (s : Said) (limit : Which) → first_passed s.totals ≡ Some limit → front_said watch mid (s ∷ []) ≡ nothing mid
none_front watch mid s limit some = ap (step_front mid (said_written watch mid s) nothing) some

-- the course of one step
abbrev pub course_by : AgentStep → Course
course_by s = then_step (still s.agent) s

pub step_went : (watch : ℕ) (mid : Bool) (s : AgentStep) (new : PartsKept) (new_mid : Bool) (before after : List ℕ) → WentStep watch mid s new new_mid before after → Went watch mid (course_by s) new new_mid before after
step_went watch mid s new new_mid before after w =
    let front : front_said watch mid (said_by s ∷ []) ≡ said_written watch mid (said_by s) = one_front watch mid (said_by s) w.stepped.within in
    record {
      stands = w.stepped.stands;
      within = one_within (said_by s) w.stepped.within;
      text = w.text ∙ ap (λ (v : Written). before ++ v.text) (sym front);
      mid_line = w.mid_line ∙ ap (λ (v : Written). v.mid_line) (sym front);
    }

pub step_stops : (watch : ℕ) (mid : Bool) (s : AgentStep) (new_mid : Bool) (before after : List ℕ) (limit : Which) → StopsStep mid s new_mid before after limit → Passed watch mid (course_by s) new_mid before after limit
step_stops watch mid s new_mid before after limit w =
    let front : front_said watch mid (said_by s ∷ []) ≡ nothing mid = none_front watch mid (said_by s) limit w.passed in
    record {
      passed = one_passes (said_by s) limit w.passed;
      text = w.text ∙ (sym (append-nil before) ∙ ap (λ (v : Written). before ++ v.text) (sym front));
      mid_line = w.mid_line ∙ ap (λ (v : Written). v.mid_line) (sym front);
    }

-- ---- courses one behind the other

pub none_went : (watch : ℕ) (mid : Bool) (s : Agent) (new : PartsKept) (text : List ℕ) → Stands new s → Went watch mid (still s) new mid text text
none_went watch mid s new text stands = record { stands = stands; within = refl; text = sym (append-nil text); mid_line = refl }

pub went_then : (watch : ℕ) (mid middle new_mid : Bool) (c d : Course) (old new : PartsKept) (before between after : List ℕ) → Went watch mid c old middle before between → Went watch middle d new new_mid between after
    → Went watch mid (then_course c d) new new_mid before after
went_then watch mid middle new_mid c d old new before between after first second =
    let w : Written = front_said watch mid c.steps in
    let front : front_said watch mid (c.steps ++ d.steps) ≡ followed_by w (front_said watch middle d.steps) =
    front_append watch mid c.steps d.steps first.within ∙ ap (λ m. followed_by w (front_said watch m d.steps)) (sym first.mid_line) in
    record {
      stands = second.stands;
      within = limit_behind c.steps d.steps first.within ∙ second.within;
      text = second.text ∙ (ap (λ t. t ++ (front_said watch middle d.steps).text) first.text ∙ (append_assoc before w.text _ ∙ ap (λ (v : Written). before ++ v.text) (sym front)));
      mid_line = second.mid_line ∙ ap (λ (v : Written). v.mid_line) (sym front);
    }

pub went_stops : (watch : ℕ) (mid middle new_mid : Bool) (c d : Course) (old : PartsKept) (before between after : List ℕ) (limit : Which) → Went watch mid c old middle before between
    → Passed watch middle d new_mid between after limit → Passed watch mid (then_course c d) new_mid before after limit
went_stops watch mid middle new_mid c d old before between after limit first second =
    let w : Written = front_said watch mid c.steps in
    let front : front_said watch mid (c.steps ++ d.steps) ≡ followed_by w (front_said watch middle d.steps) =
    front_append watch mid c.steps d.steps first.within ∙ ap (λ m. followed_by w (front_said watch m d.steps)) (sym first.mid_line) in
    record {
      passed = limit_behind c.steps d.steps first.within ∙ second.passed;
      text = second.text ∙ (ap (λ t. t ++ (front_said watch middle d.steps).text) first.text ∙ (append_assoc before w.text _ ∙ ap (λ (v : Written). before ++ v.text) (sym front)));
      mid_line = second.mid_line ∙ ap (λ (v : Written). v.mid_line) (sym front);
    }

-- what comes behind the limit is not written
pub passed_more : (watch : ℕ) (mid new_mid : Bool) (c d : Course) (more : List Said) (before after : List ℕ) (limit : Which) → d.steps ≡ c.steps ++ more
    → Passed watch mid c new_mid before after limit → Passed watch mid d new_mid before after limit
passed_more watch mid new_mid c d more before after limit are p =
    let front : front_said watch mid d.steps ≡ front_said watch mid c.steps = ap (front_said watch mid) are ∙ front_stops watch mid c.steps more limit p.passed in
    record {
      passed = ap limit_in are ∙ (limit_append c.steps more ∙ ap (λ o. or_limit o (limit_in more)) p.passed);
      text = p.text ∙ ap (λ (v : Written). before ++ v.text) (sym front);
      mid_line = p.mid_line ∙ ap (λ (v : Written). v.mid_line) (sym front);
    }

-- ---- answers

pub step_goes : {T : Type 0} (watch : ℕ) (mid : Bool) (s : AgentStep) (new : PartsKept) (new_mid : Bool) (before after : List ℕ) (result : Result T Stop)
    → GoesStep watch mid s new new_mid before after result → Goes watch mid (course_by s) new new_mid before after result
step_goes watch mid s new new_mid before after (Ok done) goes = step_went watch mid s new new_mid before after goes
step_goes watch mid s new new_mid before after (Err (stop.Limit limit)) goes = step_stops watch mid s new_mid before after limit goes
step_goes watch mid s new new_mid before after (Err stop.NoMemory) goes = tt

pub goes_then : {T : Type 0} (watch : ℕ) (mid middle new_mid : Bool) (c d : Course) (old new : PartsKept) (before between after : List ℕ) (result : Result T Stop) → Went watch mid c old middle before between
    → Goes watch middle d new new_mid between after result → Goes watch mid (then_course c d) new new_mid before after result
goes_then watch mid middle new_mid c d old new before between after (Ok done) first goes = went_then watch mid middle new_mid c d old new before between after first goes
goes_then watch mid middle new_mid c d old new before between after (Err (stop.Limit limit)) first goes = went_stops watch mid middle new_mid c d old before between after limit first goes
goes_then watch mid middle new_mid c d old new before between after (Err stop.NoMemory) first goes = tt

-- where the course stopped, further steps change nothing
pub stopped_more : (S T : Type 0) (watch : ℕ) (mid new_mid : Bool) (c d : Course) (more : List Said) (old new : PartsKept) (before after : List ℕ) (why : Stop) → d.steps ≡ c.steps ++ more
    → Goes {T = S} watch mid c old new_mid before after (Err why) → Goes {T = T} watch mid d new new_mid before after (Err why)
stopped_more S T watch mid new_mid c d more old new before after (stop.Limit limit) are goes = passed_more watch mid new_mid c d more before after limit are goes
stopped_more S T watch mid new_mid c d more old new before after stop.NoMemory are goes = tt
