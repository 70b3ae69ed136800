-- How the waves of a phase begin, go on, and end.
use Rattle.std.proofs.Common.{◌≡◌, ℕ, suc, ◌-◌, ◌<◌, ◌≤◌, ◌∙◌, Bool, true, false, not, List, Result, Ok, Err, refl, sym, ap, subst, arith}
use Rattle.soar_rule.specs.Repeat.{Turn, ends, goes_on, turns}
use Rattle.defs_soar.specs.Agents.{Agent, Settings as SettingsOf}
use Rattle.defs_soar.specs.Learning.{with_learning}
use Rattle.defs_soar.specs.Pending.{is_none, pending}
use Rattle.defs_soar.specs.Phases.{Course, Phased, still, then_step, one_wave, phased_by, phase}
use Rattle.soar_settle.specs.declared.stop.Stop.{Stop}
use Rattle.soar_settle.specs.declared.stop.Stop.TheVariants as stop
use Rattle.cycle_parts.specs.Stands.{Stands}
use Rattle.cycle_parts.specs.Parts.{Parts as PartsKept}
use Rattle.cycle_parts.specs.SettingsType.{Settings}
use Rattle.cycle_parts.specs.Waving.{Rested, TellsWork, WavesFrom, Worked, with_told}
use Rattle.cycle_parts.specs.declared.waving.Waved.{Waved}
use Rattle.cycle_parts.proofs.ToldLemmas.{told_stands}
use Rattle.cycle_phases.specs.Courses.{Went}
use Rattle.cycle_phases.specs.Going.{GoesPhase, Going}
use Rattle.cycle_phases.proofs.CourseLemmas.{course_by, none_went, passed_more, step_stops, step_went, went_stops, went_then}
use Rattle.cycle_phases.proofs.PhaseLemmas.{at_rest, at_wave, turns_by, wave_among, with_wave}

pub starts : (watch : ℕ) (proposing : Bool) (now : PartsKept) (s : Agent) (mid : Bool) (text : List ℕ) → Stands now s → Going watch proposing now now.settings.max_elaborations s mid mid text text
starts watch proposing now s mid text stands = record {
  course = still s;
  went = none_went watch mid s now text stands;
  is_left = ap (λ (settings : SettingsOf). turns settings.max_elaborations (one_wave with_learning proposing) (still s)) stands.settings;
}

-- ---- a wave told at the level that was set at the start

pub waves_at : (now initial : Settings) → now ≡ initial → (proposing : Bool) (s : Agent) (old new : PartsKept) (mid new_mid : Bool) (before after : List ℕ) (result answer : Result Waved Stop)
    → result ≡ answer → WavesFrom now.watch proposing s old new mid new_mid before after result → WavesFrom initial.watch proposing s old new mid new_mid before after answer
waves_at now initial same proposing s old new mid new_mid before after result answer is waves =
    subst (λ (r : Result Waved Stop). WavesFrom initial.watch proposing s old new mid new_mid before after r) is
    (subst (λ (x : Settings). WavesFrom x.watch proposing s old new mid new_mid before after result) same waves)

-- ---- a wave that went

behind : (watch : ℕ) (proposing halted : Bool) (now new : PartsKept) (left : ℕ) (s : Agent) (mid now_mid new_mid : Bool) (before between after : List ℕ)
    → (g : Going watch proposing now left s mid now_mid before between) → Worked watch proposing g.course.agent halted new now_mid new_mid between after
    → Went watch mid (then_step g.course (at_wave proposing g.course)) new new_mid before after
behind watch proposing halted now new left s mid now_mid new_mid before between after g worked =
    went_then watch mid now_mid new_mid g.course (course_by (at_wave proposing g.course)) now new before between after g.went
    (step_went watch now_mid (at_wave proposing g.course) new new_mid between after worked.went)

pub goes : (watch : ℕ) (proposing : Bool) (now new : PartsKept) (left : ℕ) (s : Agent) (mid now_mid new_mid : Bool) (before between after : List ℕ)
    → (g : Going watch proposing now (suc left) s mid now_mid before between) → Worked watch proposing g.course.agent false new now_mid new_mid between after
    → Going watch proposing new left s mid new_mid before after
goes watch proposing now new left s mid now_mid new_mid before between after g worked = record {
  course = then_step g.course (at_wave proposing g.course);
  went = behind watch proposing false now new (suc left) s mid now_mid new_mid before between after g worked;
  is_left =
      sym (turns_by proposing left g.course (goes_on (then_step g.course (at_wave proposing g.course))) (with_wave proposing g.course false worked.some worked.halted_is)) ∙ g.is_left;
}

-- ---- the end of a phase

-- the phase is what the turns that are left come to
abbrev ends_with : Bool → Agent → Turn Course → Type 0
ends_with proposing s t = turns s.settings.max_elaborations (one_wave with_learning proposing) (still s) ≡ t

phase_is : (proposing : Bool) (s : Agent) (t : Turn Course) → ends_with proposing s t → phase with_learning proposing s ≡ phased_by proposing t
unfolding phase
phase_is proposing s t is = ap (phased_by proposing) is

ends_so : (watch : ℕ) (proposing : Bool) (s : Agent) (t : Turn Course) (new : PartsKept) (mid new_mid : Bool) (before after : List ℕ) (cut : Bool) → ends_with proposing s t
    → Went watch mid (phased_by proposing t).course new new_mid before after → cut ≡ (phased_by proposing t).is_cut
    → GoesPhase watch mid (phase with_learning proposing s) new new_mid before after (Ok cut)
ends_so watch proposing s t new mid new_mid before after cut is went cut_is =
    subst (λ (p : Phased). GoesPhase watch mid p new new_mid before after (Ok cut)) (sym (phase_is proposing s t is)) (went, cut_is)

-- nothing was pending
pub rests : (watch : ℕ) (proposing : Bool) (now new : PartsKept) (left : ℕ) (s : Agent) (mid now_mid new_mid : Bool) (before between after : List ℕ)
    → (g : Going watch proposing now (suc left) s mid now_mid before between) → Rested proposing g.course.agent now new now_mid new_mid between after
    → GoesPhase watch mid (phase with_learning proposing s) new new_mid before after (Ok false)
rests watch proposing now new left s mid now_mid new_mid before between after g rest =
    let w = g.went in
    ends_so watch proposing s (ends g.course) new mid new_mid before after false
    (sym g.is_left ∙ turns_by proposing left g.course (ends g.course) (at_rest proposing g.course rest.none))
    (record {
      stands = subst (λ (a : PartsKept). Stands a g.course.agent) (sym rest.same) (told_stands now new.live.told g.course.agent w.stands);
      within = w.within;
      text = rest.text ∙ w.text;
      mid_line = rest.mid_line ∙ w.mid_line;
    })
    refl

-- a firing halted
pub halts : (watch : ℕ) (proposing : Bool) (now new : PartsKept) (left : ℕ) (s : Agent) (mid now_mid new_mid : Bool) (before between after : List ℕ)
    → (g : Going watch proposing now (suc left) s mid now_mid before between) → Worked watch proposing g.course.agent true new now_mid new_mid between after
    → GoesPhase watch mid (phase with_learning proposing s) new new_mid before after (Ok false)
halts watch proposing now new left s mid now_mid new_mid before between after g worked =
    let c : Course = then_step g.course (at_wave proposing g.course) in
    ends_so watch proposing s (ends c) new mid new_mid before after false
    (sym g.is_left ∙ turns_by proposing left g.course (ends c) (with_wave proposing g.course true worked.some worked.halted_is))
    (behind watch proposing true now new (suc left) s mid now_mid new_mid before between after g worked) refl

-- ---- a limit

pub stops : (watch : ℕ) (proposing : Bool) (now new : PartsKept) (left : ℕ) (s : Agent) (mid now_mid new_mid : Bool) (before between after : List ℕ) (why : Stop)
    → (g : Going watch proposing now (suc left) s mid now_mid before between) → WavesFrom watch proposing g.course.agent now new now_mid new_mid between after (Err why)
    → GoesPhase watch mid (phase with_learning proposing s) new new_mid before after (Err why)
stops watch proposing now new left s mid now_mid new_mid before between after stop.NoMemory g h = tt
stops watch proposing now new left s mid now_mid new_mid before between after (stop.Limit limit) g h =
    let c : Course = then_step g.course (at_wave proposing g.course) in
    let among = wave_among proposing left g.course h.0 in
    let is : phase with_learning proposing s ≡ phased_by proposing (turns (suc left) (one_wave with_learning proposing) g.course) =
    phase_is proposing s (turns (suc left) (one_wave with_learning proposing) g.course) (sym g.is_left) in
    passed_more watch mid new_mid c (phase with_learning proposing s).course among.0 before after limit (ap (λ (p : Phased). p.course.steps) is ∙ among.1)
    (went_stops watch mid now_mid new_mid g.course (course_by (at_wave proposing g.course)) now before between after limit g.went
    (step_stops watch now_mid (at_wave proposing g.course) new_mid between after limit h.1))

-- ---- how many waves are left

pub some_left : (watch : ℕ) (proposing : Bool) (now : PartsKept) (left : ℕ) (s : Agent) (mid now_mid : Bool) (before after : List ℕ) → 0 < left
    → Going watch proposing now left s mid now_mid before after → Going watch proposing now (suc (left - 1)) s mid now_mid before after
some_left watch proposing now left s mid now_mid before after h g =
    let one : left ≡ suc (left - 1) = omega (arith, h) in subst (λ n. Going watch proposing now n s mid now_mid before after) one g

negated : (some : Bool) (none : Bool) → none ≡ (elim some as (λ _. Bool) [ true ↦ false | false ↦ true ]) → some ≡ not none
negated true none is = ap not (sym is)
negated false none is = ap not (sym is)

-- no wave is left
pub is_over : (watch : ℕ) (proposing : Bool) (now new : PartsKept) (left : ℕ) (s : Agent) (mid now_mid : Bool) (before after : List ℕ) (result : Result Bool Stop) → left ≤ 0
    → (g : Going watch proposing now left s mid now_mid before after) → new ≡ with_told now new.live.told → TellsWork proposing g.course.agent result
    → GoesPhase watch mid (phase with_learning proposing s) new now_mid before after result
is_over watch proposing now new left s mid now_mid before after (Ok some) h g same tells =
    let none : left ≡ 0 = omega (arith, h) in
    let w = g.went in
    ends_so watch proposing s (goes_on g.course) new mid now_mid before after some
    (sym g.is_left ∙ ap (λ n. turns n (one_wave with_learning proposing) g.course) none)
    (record {
      stands = subst (λ (a : PartsKept). Stands a g.course.agent) (sym same) (told_stands now new.live.told g.course.agent w.stands);
      within = w.within;
      text = w.text;
      mid_line = w.mid_line;
    })
    (negated some (is_none (pending proposing g.course.agent)) tells)
is_over watch proposing now new left s mid now_mid before after (Err (stop.Limit limit)) h g same tells = absurd tells
is_over watch proposing now new left s mid now_mid before after (Err stop.NoMemory) h g same tells = tt
