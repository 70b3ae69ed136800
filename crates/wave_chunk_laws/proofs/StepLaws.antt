-- Each step of learning in a lawful wave is of a lawful wave, so its chunk goes again.
use Rattle.std.proofs.Common.{◌≡◌, refl, sym, subst, ℕ, zero, suc, nat_lt, Bool, true, false, ◌==◌, ◌&&◌, cond, inl, inr, List, [], ◌∷◌, ◌++◌, filter, length}
use Rattle.std.specs.List.{list_any}
use Rattle.soar_rule.specs.Repeat.{repeated}
use Rattle.defs_soar.specs.Agents.{Agent}
use Rattle.defs_soar.specs.Laws.{IsIn}
use Rattle.defs_soar.specs.LearnedRules.{after_explanation}
use Rattle.defs_soar.specs.Learning.{learned_from, learned_from_each, one_round, with_learning}
use Rattle.defs_soar.specs.Results.{is_result}
use Rattle.defs_soar.specs.WaveAtHand.{all_fresh, Fresh, Wave}
use Rattle.defs_soar.specs.WaveFirings.{before_wave}
use Rattle.learning_laws.specs.LawfulAgents.{IsLawfulAgent}
use Rattle.learning_laws.specs.LawfulWaves.{explained_in, IsLawfulWave, LearningStepsKeep}
use Rattle.learning_laws.proofs.ChunkJoins.{learning_steps_keep}
use Rattle.learning_laws.proofs.Lists.{filter_within, in_append}
use Rattle.learning_laws.proofs.WaveLearning.{chunks_of_waves}
use Rattle.wave_chunk_laws.specs.Chunks.{first_step, GoesAgain, LawfulWavesLearnWell, LearningStep, steps_from, steps_of_rounds, wave_behind}
use Rattle.wave_chunk_laws.proofs.GrowthLaws.{each_keeps, explanation_keeps, kept, Keeps, rounds_keep, then_kept}

-- a step is of a lawful wave, and what is behind it is there in the end
pub record StandsIn (a : Agent) (s : LearningStep) (end : Wave) : Type 0 where
  pub wave : IsLawfulWave a s.at
  pub firing : IsIn s.of (all_fresh s.at.entries)
  pub stays : Keeps (wave_behind (before_wave a) s) end

one_number : (a : Agent) (n : ℕ) (w : Wave) → IsLawfulAgent a → IsLawfulWave a w → IsLawfulWave a (learned_from_each (before_wave a) (n ∷ []) w)
one_number a n w h k =
    go (filter (λ x. x.firing.number == n) (all_fresh w.entries)) (λ x i. (filter_within (λ x. x.firing.number == n) (all_fresh w.entries) x i).0)
  where
    one : (x : Fresh) → IsIn x (all_fresh w.entries) → (b : Bool) → IsLawfulWave a (cond b (after_explanation (before_wave a) (explained_in a w x.firing) w) w)
    one x i true = learning_steps_keep a w x h k i
    one x i false = k

    go : (found : List Fresh) → ((x : Fresh) → IsIn x found → IsIn x (all_fresh w.entries))
        → IsLawfulWave a (elim found as (λ y. Wave) [ [] ↦ w | x ∷ others ↦ learned_from (before_wave a) x.firing w ])
    go [] within = k
    go (x ∷ others) within = one x (within x (inl refl)) (nat_lt 1 x.firing.depth && list_any (is_result (before_wave a).reach x.firing.depth) x.firing.made)

-- the step of the firing of a number, and the wave behind it
first_stands : (a : Agent) (n : ℕ) (w : Wave) (s : LearningStep) → IsLawfulAgent a → IsLawfulWave a w
    → IsIn s (first_step (before_wave a) w (filter (λ x. x.firing.number == n) (all_fresh w.entries))) → StandsIn a s (learned_from_each (before_wave a) (n ∷ []) w)
first_stands a n w s h k i =
    go (filter (λ x. x.firing.number == n) (all_fresh w.entries)) (λ x j. (filter_within (λ x. x.firing.number == n) (all_fresh w.entries) x j).0) i
  where
    one : (x : Fresh) → IsIn x (all_fresh w.entries) → (b : Bool) → IsIn s (cond b (record { at = w; of = x } ∷ []) [])
        → StandsIn a s (cond b (after_explanation (before_wave a) (explained_in a w x.firing) w) w)
    one x j true (inl e) = subst (λ t. StandsIn a t (after_explanation (before_wave a) (explained_in a w x.firing) w)) e (record { wave = k; firing = j; stays = kept _ })
    one x j true (inr z) = absurd z
    one x j false z = absurd z

    go : (found : List Fresh) → ((x : Fresh) → IsIn x found → IsIn x (all_fresh w.entries)) → IsIn s (first_step (before_wave a) w found)
        → StandsIn a s (elim found as (λ y. Wave) [ [] ↦ w | x ∷ others ↦ learned_from (before_wave a) x.firing w ])
    go [] within z = absurd z
    go (x ∷ others) within j = one x (within x (inl refl)) (nat_lt 1 x.firing.depth && list_any (is_result (before_wave a).reach x.firing.depth) x.firing.made) j

-- learning from the first number, and then from the others
in_turn : (a : Agent) (n : ℕ) (numbers : List ℕ) (w : Wave) → learned_from_each (before_wave a) (n ∷ numbers) w ≡ learned_from_each (before_wave a) numbers (learned_from_each (before_wave a) (n ∷ []) w)
in_turn a n numbers w = refl

stands_later : (a : Agent) (s : LearningStep) (v w : Wave) → Keeps v w → StandsIn a s v → StandsIn a s w
stands_later a s v w k h = record { wave = h.wave; firing = h.firing; stays = then_kept _ v w h.stays k }

each_stands : (a : Agent) (numbers : List ℕ) (w : Wave) (s : LearningStep) → IsLawfulAgent a → IsLawfulWave a w
    → IsIn s (steps_from (before_wave a) numbers w) → StandsIn a s (learned_from_each (before_wave a) numbers w)
each_stands a [] w s h k z = absurd z
each_stands a (n ∷ numbers) w s h k i =
    let v = learned_from_each (before_wave a) (n ∷ []) w in
    elim (in_append s (first_step (before_wave a) w (filter (λ x. x.firing.number == n) (all_fresh w.entries))) (steps_from (before_wave a) numbers v) i) [
      | inl j ↦ stands_later a s v (learned_from_each (before_wave a) numbers v) (each_keeps (before_wave a) numbers v) (first_stands a n w s h k j)
      | inr j ↦ each_stands a numbers v s h (one_number a n w h k) j
    ]

others_same : (a : Agent) (w : Wave) (next : List ℕ) → IsLawfulWave a w → IsLawfulWave a (record w { next = next })
others_same a w next k = record { founded = k.founded; wishes = k.wishes; counted = k.counted; later = k.later; explains = k.explains; can = k.can }

all_lawful : (a : Agent) (numbers : List ℕ) (w : Wave) → IsLawfulAgent a → IsLawfulWave a w → IsLawfulWave a (learned_from_each (before_wave a) numbers w)
all_lawful a [] w h k = k
all_lawful a (n ∷ numbers) w h k = all_lawful a numbers (learned_from_each (before_wave a) (n ∷ []) w) h (one_number a n w h k)

rounds_stand : (a : Agent) (n : ℕ) (w : Wave) (s : LearningStep) → IsLawfulAgent a → IsLawfulWave a w
    → IsIn s (steps_of_rounds n (before_wave a) w) → StandsIn a s (repeated n (one_round (before_wave a)) w)
rounds_stand a zero w s h k z = absurd z
rounds_stand a (suc n) w s h k i =
    let u = record w { next = [] } in
    let v = one_round (before_wave a) w in
    elim (in_append s (steps_from (before_wave a) w.next u) (steps_of_rounds n (before_wave a) v) i) [
      | inl j ↦ stands_later a s v (repeated n (one_round (before_wave a)) v) (rounds_keep (before_wave a) n v) (each_stands a w.next u s h (others_same a w [] k) j)
      | inr j ↦ rounds_stand a n v s h (all_lawful a w.next u h (others_same a w [] k)) j
    ]

pub lawful_waves_learn_well : LawfulWavesLearnWell
unfolding with_learning
lawful_waves_learn_well a w h k s local i out =
    let at = rounds_stand a (length a.holding.goals) w s h k i in
    record { learns = chunks_of_waves a s.at s.of h at.wave at.firing out local; rules_stay = at.stays.rules; chains_stay = at.stays.chains }
