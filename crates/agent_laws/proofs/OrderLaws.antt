-- The numbers of a wave's firings rise.
use Rattle.std.proofs.Common.{◌≡◌, refl, sym, ◌∙◌, ap, subst, ℕ, zero, suc, ◌≤◌, ◌<◌, nat_lt, Bool, true, false, ◌==◌, ◌&&◌, cond, inl, inr, arith, List, [], ◌∷◌, ◌++◌, map, filter, length}
use Rattle.std.specs.List.{list_any}
use Rattle.soar_rule.specs.Repeat.{repeated}
use Rattle.defs_soar.specs.Agents.{Agent}
use Rattle.defs_soar.specs.History.{FiringOf}
use Rattle.defs_soar.specs.Laws.{IsIn}
use Rattle.defs_soar.specs.Learning.{learned_from, learned_from_each, explained_on, one_round, results_by_instance, with_learning, without_learning}
use Rattle.defs_soar.specs.Pending.{Firable, is_of_operator_kind}
use Rattle.defs_soar.specs.Results.{is_result, results_of}
use Rattle.defs_soar.specs.LearnedRules.{after_explanation}
use Rattle.defs_soar.specs.WaveAtHand.{all_fresh, Fresh, BeforeWave, Wave}
use Rattle.defs_soar.specs.WaveFirings.{first_wave, firing_of_work, fresh_firing, made_in, before_wave, with_firing, with_firings}
use Rattle.learning_laws.specs.LawfulWaves.{fresh_firings}
use Rattle.learning_laws.proofs.JoinLaws.{fresh_more}
use Rattle.learning_laws.proofs.Lists.{in_append}
use Rattle.learning_laws.proofs.LearnedRuleLaws.{firings_kept}
use Rattle.learning_laws.proofs.WorkLaws.{map_both}
use Rattle.agent_laws.specs.Records.{AreRisingFrom}
use Rattle.agent_laws.specs.RecordSteps.{DoingWithoutKeepsOrder, IsInOrder, LearningKeepsOrder}
use Rattle.agent_laws.proofs.TaughtLaws.{is_taught, IsTaught, joins, keeps}

rising_more : (least : ℕ) (fs : List FiringOf) (f : FiringOf) → AreRisingFrom least fs → least < f.number → ((g : FiringOf) → IsIn g fs → g.number < f.number) → AreRisingFrom least (fs ++ f ∷ [])
rising_more least [] f h low less = (low, tt)
rising_more least (g ∷ fs) f h low less = (h.0, rising_more g.number fs f h.1 (less g (inl refl)) (λ x i. less x (inr i)))

-- one firing more
one_more : (least : ℕ) (f : FiringOf) (w v : Wave) → IsInOrder least w → fresh_firings v ≡ fresh_firings w ++ f ∷ [] → f.number ≡ suc w.last_firing → v.last_firing ≡ suc w.last_firing → IsInOrder least v
one_more least f w v h firings number last = record {
  rising = subst (AreRisingFrom least) (sym firings) (rising_more least (fresh_firings w) f h.rising (let low : least ≤ w.last_firing = h.low in omega arith) (λ g i. let few : g.number ≤ w.last_firing = h.numbers g i in omega arith));
  numbers = λ g i. elim (in_append g (fresh_firings w) (f ∷ []) (subst (IsIn g) firings i)) [
    | inl j ↦ let few : g.number ≤ w.last_firing = h.numbers g j in omega arith
    | inr j ↦ elim j [ inl e ↦ let q : f.number ≡ g.number = ap (λ (x : FiringOf). x.number) e in omega arith | inr z ↦ absurd z ]
  ];
  low = let low : least ≤ w.last_firing = h.low in omega arith;
}

same_order : (least : ℕ) (w v : Wave) → IsInOrder least w → fresh_firings v ≡ fresh_firings w → v.last_firing ≡ w.last_firing → IsInOrder least v
same_order least w v h firings last = record {
  rising = subst (AreRisingFrom least) (sym firings) h.rising;
  numbers = λ g i. subst (λ n. g.number ≤ n) (sym last) (h.numbers g (subst (IsIn g) firings i));
  low = subst (λ n. least ≤ n) (sym last) h.low;
}

-- ---- learning

taught_in_order : (least depth : ℕ) (w v : Wave) → IsInOrder least w → IsTaught depth w.next (fresh_firings w) w.last_firing v → IsInOrder least v
taught_in_order least depth w v h (keeps next firings last) = same_order least w v h firings last
taught_in_order least depth w v h (joins f firings number last next) = one_more least f w v h firings number last

each_in_order : (m : BeforeWave) (least : ℕ) (left : List ℕ) (v : Wave) → IsInOrder least v → IsInOrder least (learned_from_each m left v)
each_in_order m least [] v h = h
each_in_order m least (n ∷ left) v h = go (filter (λ x. x.firing.number == n) (all_fresh v.entries)) (λ u k. each_in_order m least left u k)
  where
    one : (x : Fresh) (b : Bool) → IsInOrder least (cond b (after_explanation m (explained_on m x.firing (results_of v.names.words m.reach m.rows x.firing)) v) v)
    one x true =
        let l = explained_on m x.firing (results_of v.names.words m.reach m.rows x.firing) in taught_in_order least x.firing.depth v (after_explanation m l v) h (is_taught m l v)
    one x false = h

    go : (found : List Fresh) → ((u : Wave) → IsInOrder least u → IsInOrder least (learned_from_each m left u))
        → IsInOrder least (learned_from_each m left (elim found as (λ y. Wave) [ [] ↦ v | x ∷ others ↦ learned_from m x.firing v ]))
    go [] later = later v h
    go (x ∷ others) later = later (learned_from m x.firing v) (one x (nat_lt 1 x.firing.depth && list_any (is_result m.reach x.firing.depth) x.firing.made))

pub learning_keeps_order : LearningKeepsOrder
unfolding with_learning
learning_keeps_order m least w h = rounds (length m.reach.goals) w h
  where
    rounds : (n : ℕ) (v : Wave) → IsInOrder least v → IsInOrder least (repeated n (one_round m) v)
    rounds zero v k = k
    rounds (suc n) v k = rounds n (one_round m v) (each_in_order m least v.next (record v { next = [] }) (record { rising = k.rising; numbers = k.numbers; low = k.low }))

pub doing_without_keeps_order : DoingWithoutKeepsOrder
unfolding without_learning
doing_without_keeps_order m least w h =
    let k = same_order least w (record w { entries = map (results_by_instance m) w.entries }) h (firings_kept m w.entries) refl in record { rising = k.rising; numbers = k.numbers; low = k.low }

-- ---- the firings of a wave

firings_in_order : (m : BeforeWave) (least : ℕ) (w : Wave) (firables : List Firable) → IsInOrder least w → IsInOrder least (with_firings m w firables)
unfolding with_firings
firings_in_order m least w [] h = h
firings_in_order m least w (f ∷ firables) h = firings_in_order m least (with_firing m w f) firables (one_more least made w (with_firing m w f) h firings refl refl)
  where
    made : FiringOf
    made = firing_of_work m w f (made_in w m f)

    fresh : Fresh
    fresh = fresh_firing m made (is_of_operator_kind m.reach.goals f) (made_in w m f)

    firings : fresh_firings (with_firing m w f) ≡ fresh_firings w ++ made ∷ []
    firings = ap (map (λ (x : Fresh). x.firing)) (fresh_more w.entries fresh) ∙ map_both (λ (x : Fresh). x.firing) (all_fresh w.entries) (fresh ∷ [])

pub wave_in_order : (a : Agent) (firables : List Firable) → IsInOrder a.counts.firings (with_firings (before_wave a) (first_wave a) firables)
wave_in_order a firables = firings_in_order (before_wave a) a.counts.firings (first_wave a) firables (record { rising = tt; numbers = λ f i. absurd i; low = omega arith })
