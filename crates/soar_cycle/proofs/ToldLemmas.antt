-- What was said into a text of its own, appended.
use Rattle.std.proofs.Common.{◌≡◌, ℕ, ◌∙◌, Bool, true, false, List, [], ◌∷◌, ◌++◌, Result, Ok, Err, IfOk, refl, ap, subst}
use Rattle.defs_soar.specs.Agents.{Agent}
use Rattle.defs_soar.specs.Phases.{Course, Phased}
use Rattle.defs_soar.specs.Resettling.{AgentStep}
use Rattle.soar_settle.specs.declared.stop.Stop.{Stop}
use Rattle.soar_settle.specs.declared.stop.Stop.TheVariants as stop
use Rattle.cycle_phases.specs.Parts.{Parts as PartsKept}
use Rattle.cycle_phases.specs.Stepping.{GoesStep, StopsStep, WentStep}
use Rattle.cycle_phases.specs.Waving.{WavesFrom, Worked}
use Rattle.cycle_phases.specs.Waved.{Waved}
use Rattle.cycle_phases.specs.WavedVariants as waved
use Rattle.cycle_phases.specs.Courses.{Goes, IsEndOf, Passed, Went}
use Rattle.soar_cycle.specs.Telling.{Tells}
use Rattle.cycle_phases.specs.declared.phase.Ended.{Ended}

-- the text that was said into nothing comes behind what was there
appended : (start said before after text : List ℕ) → start ≡ [] → said ≡ start ++ text → after ≡ before ++ said → after ≡ before ++ text
appended start said before after text empty is behind = behind ∙ ap (λ t. before ++ t) (is ∙ ap (λ t. t ++ text) empty)

-- nothing was said
unsaid : (start said before after : List ℕ) → start ≡ [] → said ≡ start → after ≡ before ++ said → before ++ [] ≡ before → after ≡ before
unsaid start said before after empty is behind none = behind ∙ (ap (λ t. before ++ t) (is ∙ empty) ∙ none)

nothing_more : (bytes : List ℕ) → bytes ++ [] ≡ bytes
nothing_more [] = refl
nothing_more (b ∷ bytes) = ap (λ l. b ∷ l) (nothing_more bytes)

pub goes_told : {T : Type 0} (watch : ℕ) (mid : Bool) (c : Course) (new : PartsKept) (new_mid : Bool) (start said before after : List ℕ) (answer result : Result T Stop) → start ≡ []
    → Tells answer said before after result → Goes watch mid c new new_mid start said answer → Goes watch mid c new new_mid before after result
goes_told {T} watch mid c new new_mid start said before after answer (Ok done) empty tells goes =
    let went : Went watch mid c new new_mid start said = subst (λ (r : Result T Stop). Goes watch mid c new new_mid start said r) tells.0 goes in
    record { stands = went.stands; within = went.within; text = appended start said before after _ empty went.text tells.1; mid_line = went.mid_line }
goes_told {T} watch mid c new new_mid start said before after answer (Err (stop.Limit limit)) empty tells goes =
    let passed : Passed watch mid c new_mid start said limit = subst (λ (r : Result T Stop). Goes watch mid c new new_mid start said r) tells.0 goes in
    record { passed = passed.passed; text = appended start said before after _ empty passed.text tells.1; mid_line = passed.mid_line }
goes_told watch mid c new new_mid start said before after answer (Err stop.NoMemory) empty tells goes = tt

pub step_told : {T : Type 0} (watch : ℕ) (mid : Bool) (s : AgentStep) (new : PartsKept) (new_mid : Bool) (start said before after : List ℕ) (answer result : Result T Stop) → start ≡ []
    → Tells answer said before after result → GoesStep watch mid s new new_mid start said answer → GoesStep watch mid s new new_mid before after result
step_told {T} watch mid s new new_mid start said before after answer (Ok done) empty tells goes =
    let went : WentStep watch mid s new new_mid start said = subst (λ (r : Result T Stop). GoesStep watch mid s new new_mid start said r) tells.0 goes in
    record { stepped = went.stepped; text = appended start said before after _ empty went.text tells.1; mid_line = went.mid_line }
step_told {T} watch mid s new new_mid start said before after answer (Err (stop.Limit limit)) empty tells goes =
    let stops : StopsStep mid s new_mid start said limit = subst (λ (r : Result T Stop). GoesStep watch mid s new new_mid start said r) tells.0 goes in
    record { passed = stops.passed; text = unsaid start said before after empty stops.text tells.1 (nothing_more before); mid_line = stops.mid_line }
step_told watch mid s new new_mid start said before after answer (Err stop.NoMemory) empty tells goes = tt

-- so is whether the limit of goals halted
pub halted_told : (halted : Bool) (said before after : List ℕ) (answer result : Result Bool Stop) → Tells answer said before after result → IfOk answer (λ h. h ≡ halted) → IfOk result (λ h. h ≡ halted)
halted_told halted said before after answer (Ok done) tells is = subst (λ (r : Result Bool Stop). IfOk r (λ h. h ≡ halted)) tells.0 is
halted_told halted said before after answer (Err why) tells is = tt

worked_told : (watch : ℕ) (proposing : Bool) (s : Agent) (halted : Bool) (new : PartsKept) (mid new_mid : Bool) (start said before after : List ℕ) → start ≡ [] → after ≡ before ++ said
    → Worked watch proposing s halted new mid new_mid start said → Worked watch proposing s halted new mid new_mid before after
worked_told watch proposing s halted new mid new_mid start said before after empty behind worked = record {
  some = worked.some;
  went = record { stepped = worked.went.stepped; text = appended start said before after _ empty worked.went.text behind; mid_line = worked.went.mid_line };
  halted_is = worked.halted_is;
}

pub waves_told : (watch : ℕ) (proposing : Bool) (s : Agent) (old new : PartsKept) (mid new_mid : Bool) (start said before after : List ℕ) (answer result : Result Waved Stop) → start ≡ []
    → Tells answer said before after result → WavesFrom watch proposing s old new mid new_mid start said answer → WavesFrom watch proposing s old new mid new_mid before after result
waves_told watch proposing s old new mid new_mid start said before after answer (Ok waved.Rest) empty tells waves =
    let rest = subst (λ (r : Result Waved Stop). WavesFrom watch proposing s old new mid new_mid start said r) tells.0 waves in
    record { none = rest.none; same = rest.same; text = unsaid start said before after empty rest.text tells.1 (nothing_more before); mid_line = rest.mid_line }
waves_told watch proposing s old new mid new_mid start said before after answer (Ok waved.Went) empty tells waves =
    worked_told watch proposing s false new mid new_mid start said before after empty tells.1 (subst (λ (r : Result Waved Stop). WavesFrom watch proposing s old new mid new_mid start said r) tells.0 waves)
waves_told watch proposing s old new mid new_mid start said before after answer (Ok waved.Halted) empty tells waves =
    worked_told watch proposing s true new mid new_mid start said before after empty tells.1 (subst (λ (r : Result Waved Stop). WavesFrom watch proposing s old new mid new_mid start said r) tells.0 waves)
waves_told watch proposing s old new mid new_mid start said before after answer (Err (stop.Limit limit)) empty tells waves =
    let stops = subst (λ (r : Result Waved Stop). WavesFrom watch proposing s old new mid new_mid start said r) tells.0 waves in
    (stops.0, record { passed = stops.1.passed; text = unsaid start said before after empty stops.1.text tells.1 (nothing_more before); mid_line = stops.1.mid_line })
waves_told watch proposing s old new mid new_mid start said before after answer (Err stop.NoMemory) empty tells waves = tt

pub end_told : (p : Phased) (said before after : List ℕ) (answer result : Result Ended Stop) → Tells answer said before after result → IsEndOf p answer → IsEndOf p result
end_told p said before after answer (Ok end) tells is = subst (λ (r : Result Ended Stop). IsEndOf p r) tells.0 is
end_told p said before after answer (Err why) tells is = tt
