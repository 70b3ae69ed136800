-- The record of firings in the place of the history: a lawful agent is lawful with it, and learns what it does with each history of which it is a part.
use Rattle.std.proofs.Common.{◌≡◌, ◌∙◌, false, List, [], ◌∷◌, map, None, refl, sym, ap, subst}
use Rattle.defs_soar.specs.Agents.{Agent}
use Rattle.defs_soar.specs.History.{FiringOf, RecordedFiring}
use Rattle.defs_soar.specs.Learning.{with_learning}
use Rattle.defs_soar.specs.Pending.{Firable, Work as WorkOf}
use Rattle.defs_soar.specs.WaveAtHand.{BeforeWave, Wave}
use Rattle.defs_soar.specs.WaveFirings.{before_wave, first_wave, with_firing, with_firings}
use Rattle.learning_laws.specs.LawfulAgents.{IsLawfulAgent}
use Rattle.learning_laws.specs.LawfulWaves.{IsLawfulWave}
use Rattle.agent_laws.specs.Dependence.{firings_in}
use Rattle.agent_laws.specs.Records.{IsPartOf}
use Rattle.record_laws.specs.Closed.{HasMakers}
use Rattle.record_laws.proofs.LawfulRecords.{lawful_by_record}
use Rattle.record_laws.proofs.LearningRecords.{learning_by_record}
use Rattle.soar_record.specs.Recorded.{recorded}
use Rattle.wave_parts.specs.Lawful.{IsOfLawful}
use Rattle.wave_parts.specs.Remembers.{Remembers, roots_in}
use Rattle.wave_parts.specs.Seen.{agent_of}
use Rattle.wave_parts.specs.WaveParts.{ended_in, fired_in}
use Rattle.wave_parts.specs.declared.parts.Parts.{Parts as PartsKept}
use Rattle.wave_parts.proofs.StandsLemmas.{state_is}

-- ---- lawful states

-- the state whose history a lawful agent's is
pub lawful_at : (old : PartsKept) (lawful : IsOfLawful old) → IsLawfulAgent (agent_of old lawful.agent.history)
lawful_at old lawful = subst IsLawfulAgent (state_is old lawful.agent lawful.stands) lawful.lawful

-- a firing as one of a history
abbrev alone : FiringOf → RecordedFiring
alone f = record { firing = f; goal = None; operator_kind = false; lasting = []; before = record { goals = []; reached = [] } }

-- the record as a history
abbrev pub recorded_alone : PartsKept → List RecordedFiring
recorded_alone old = map alone (recorded old.past)

pub firings_alone : (firings : List FiringOf) → firings_in (map alone firings) ≡ firings
firings_alone [] = refl
firings_alone (f ∷ firings) = ap (λ fs. f ∷ fs) (firings_alone firings)

abbrev pub recorded_agent : PartsKept → Agent
recorded_agent old = agent_of old (recorded_alone old)

part_alone : (old : PartsKept) (firings : List FiringOf) → IsPartOf (recorded old.past) firings (roots_in old) → IsPartOf (firings_in (recorded_alone old)) firings (roots_in old)
part_alone old firings h = subst (λ kept. IsPartOf kept firings (roots_in old)) (sym (firings_alone (recorded old.past))) h

pub lawful_recorded : (old : PartsKept) → IsOfLawful old → IsLawfulAgent (recorded_agent old)
lawful_recorded old lawful =
    let remembers = lawful.stands.remembers in
    lawful_by_record (recorded_alone old) (agent_of old lawful.agent.history) (lawful_at old lawful) (part_alone old (firings_in lawful.agent.history) remembers.is_record)
    (subst HasMakers (sym (firings_alone (recorded old.past))) remembers.makers_kept)

-- ---- the wave

-- firings of rules do not look at the history
fired_same : (m : BeforeWave) (firings : List FiringOf) (w : Wave) (firables : List Firable) → with_firings (record m { firings = firings }) w firables ≡ with_firings m w firables
unfolding with_firings
fired_same m firings w [] = refl
fired_same m firings w (f ∷ firables) = fired_same m firings (with_firing m w f) firables

pub ended_same : (old : PartsKept) (history : List RecordedFiring) (w : WorkOf) → IsLawfulAgent (recorded_agent old) → IsLawfulWave (recorded_agent old) (fired_in (recorded_agent old) w) → Remembers old history
    → ended_in (agent_of old history) w ≡ ended_in (recorded_agent old) w
ended_same old history w lawful lawful_wave remembers =
    let a = recorded_agent old in
    let firings = firings_in history in
    ap (with_learning (record (before_wave a) { firings = firings })) (fired_same (before_wave a) firings (first_wave a) w.fired)
    ∙ learning_by_record a (fired_in a w) firings lawful lawful_wave (part_alone old firings remembers.is_record) remembers.numbers_given
