-- Firings in turn, and rounds: where the code stands, and that the wave stays lawful.
use Rattle.std.proofs.Common.{◌≡◌, ◌≤◌, refl, subst, ℕ, zero, suc, Bool, true, false, ◌==◌, cond, inl, inr, List, [], ◌∷◌, ◌++◌, length, map, filter, None}
use Rattle.soar_rule.specs.Repeat.{repeated}
use Rattle.defs_soar.specs.Agents.{Agent}
use Rattle.defs_soar.specs.Laws.{IsIn}
use Rattle.defs_soar.specs.Learning.{learned_from, learned_from_each, one_round, with_learning}
use Rattle.defs_soar.specs.LearnedFirings.{ExplainedFiring}
use Rattle.defs_soar.specs.LearnedRules.{after_explanation}
use Rattle.defs_soar.specs.Limits.{first_passed}
use Rattle.defs_soar.specs.Results.{goes_over}
use Rattle.defs_soar.specs.WaveAtHand.{BeforeWave, Entry, Fresh, Wave, all_fresh, fired, noted}
use Rattle.defs_soar.specs.WaveFirings.{before_wave}
use Rattle.learning_laws.specs.LawfulAgents.{IsLawfulAgent, firings_of_agent}
use Rattle.learning_laws.specs.LawfulWaves.{IsLawfulWave, explained_in, fresh_firings}
use Rattle.learning_laws.proofs.ChunkJoins.{learning_steps_keep}
use Rattle.learning_laws.proofs.Lists.{filter_within, in_mapped, in_right}
use Rattle.wave_learning.specs.Course.{course_seen, from_each, from_first, from_firing, from_number, plain, reached, round_of, rounds_of, taught, teaches_in}
use Rattle.wave_learning.proofs.Agreement.{Agrees, Appends, SameFlags, agrees_taught, agrees_then, appends_none, appends_taught, appends_then, held_taught, rising_taught, told_of}
use Rattle.wave_learning.specs.Lawful.{GoesOn}
use Rattle.wave_learning.specs.Rising.{numbers_in}
use Rattle.wave_learning.proofs.FlagLemmas.{flags_are}
use Rattle.wave_learning.proofs.RisingLemmas.{AreWithin}

others_same : (a : Agent) (w : Wave) (next : List ℕ) → IsLawfulWave a w → IsLawfulWave a (record w { next = next })
others_same a w next k = record { founded = k.founded; wishes = k.wishes; counted = k.counted; later = k.later; explains = k.explains; can = k.can }

there : (a : Agent) (w : Wave) (x : Fresh) → IsIn x (all_fresh w.entries) → IsIn x.firing (firings_of_agent a ++ fresh_firings w)
there a w x i = in_right x.firing (firings_of_agent a) (fresh_firings w) (in_mapped (λ (v : Fresh). v.firing) x (all_fresh w.entries) i)

pub number_tells : (a : Agent) (w : Wave) → IsLawfulWave a w → (x y : Fresh) → IsIn x (all_fresh w.entries) → IsIn y (all_fresh w.entries) → x.firing.number ≡ y.firing.number → x.firing ≡ y.firing
number_tells a w k x y i j q = k.founded.history.numbers x.firing y.firing (there a w x i) (there a w y j) q

-- no number is above the last that was given
firing_of : (n : ℕ) (entries : List Entry) → IsIn n (numbers_in entries) → (x : Fresh) × IsIn x (all_fresh entries) × (x.firing.number ≡ n)
firing_of n [] i = absurd i
firing_of n (noted l ∷ entries) i = firing_of n entries i
firing_of n (fired x ∷ entries) (inl q) = (x, inl refl, q)
firing_of n (fired x ∷ entries) (inr i) = let found = firing_of n entries i in (found.0, inr found.1, found.2)

are_within : (a : Agent) (w : Wave) → IsLawfulWave a w → AreWithin w.last_firing w.entries
are_within a w k n i =
    let found = firing_of n w.entries i in
    subst (λ (number : ℕ). number ≤ w.last_firing) found.2 (k.founded.history.last_is found.0.firing (there a w found.0 found.1))

module _ (a : Agent) (h : IsLawfulAgent a) where
  abbrev m : BeforeWave
  m = before_wave a

  -- ---- one firing

  module _ (w : Wave) (k : GoesOn a w) (x : Fresh) (i : IsIn x (all_fresh w.entries)) where
    abbrev l : ExplainedFiring
    l = explained_in a w x.firing

    abbrev flags : List Bool
    flags = map (goes_over m.reach m.rows x.firing) x.firing.made

    same_flags : SameFlags l flags w.entries
    same_flags = λ by. flags_are x.firing (goes_over m.reach m.rows x.firing) by w.entries k.held (λ y j q. number_tells a w k.lawful y x j i q)

    agrees_firing : first_passed w.totals ≡ None → Agrees (from_firing (plain m) x.firing (course_seen w)) (learned_from m x.firing w)
    agrees_firing none = go (teaches_in m x.firing)
      where
        go : (b : Bool) → Agrees (cond b (taught (plain m) (told_of l flags) (course_seen w)) (reached (course_seen w))) (cond b (after_explanation m l w) w)
        go true = agrees_taught m l w flags none same_flags
        go false = (refl, none)

    firing_goes_on : GoesOn a (learned_from m x.firing w)
    firing_goes_on = go (teaches_in m x.firing)
      where
        go : (b : Bool) → GoesOn a (cond b (after_explanation m l w) w)
        go true = record { lawful = learning_steps_keep a w x h k.lawful i; held = held_taught m l w k.held; rising = rising_taught m l w k.rising (are_within a w k.lawful) }
        go false = k

  appends_firing : (w : Wave) (x : Fresh) → Appends w (learned_from m x.firing w)
  appends_firing w x = go (teaches_in m x.firing)
    where
      go : (b : Bool) → Appends w (cond b (after_explanation m (explained_in a w x.firing) w) w)
      go true = appends_taught m (explained_in a w x.firing) w
      go false = appends_none w w refl

  -- ---- the firing of a number

  abbrev pub after_found : Wave → List Fresh → Wave
  after_found w found = elim found as (λ y. Wave) [ [] ↦ w | x ∷ others ↦ learned_from m x.firing w ]

  abbrev pub found_in : ℕ → Wave → List Fresh
  found_in n w = filter (λ x. x.firing.number == n) (all_fresh w.entries)

  abbrev AreThere : Wave → List Fresh → Type 0
  AreThere w found = (x : Fresh) → IsIn x found → IsIn x (all_fresh w.entries)

  are_there : (n : ℕ) (w : Wave) → AreThere w (found_in n w)
  are_there n w x i = (filter_within (λ (x : Fresh). x.firing.number == n) (all_fresh w.entries) x i).0

  agrees_found : (w : Wave) → GoesOn a w → first_passed w.totals ≡ None → (found : List Fresh) → AreThere w found → Agrees (from_first (plain m) found (course_seen w)) (after_found w found)
  agrees_found w k none [] there = (refl, none)
  agrees_found w k none (x ∷ others) there = agrees_firing w k x (there x (inl refl)) none

  found_goes_on : (w : Wave) → GoesOn a w → (found : List Fresh) → AreThere w found → GoesOn a (after_found w found)
  found_goes_on w k [] there = k
  found_goes_on w k (x ∷ others) there = firing_goes_on w k x (there x (inl refl))

  appends_found : (w : Wave) (found : List Fresh) → Appends w (after_found w found)
  appends_found w [] = appends_none w w refl
  appends_found w (x ∷ others) = appends_firing w x

  pub agrees_number : (n : ℕ) (w : Wave) → GoesOn a w → first_passed w.totals ≡ None → Agrees (from_number (plain m) n (course_seen w)) (after_found w (found_in n w))
  agrees_number n w k none = agrees_found w k none (found_in n w) (are_there n w)

  pub number_goes_on : (n : ℕ) (w : Wave) → GoesOn a w → GoesOn a (after_found w (found_in n w))
  number_goes_on n w k = found_goes_on w k (found_in n w) (are_there n w)

  -- ---- numbers in turn

  appends_each : (numbers : List ℕ) (w : Wave) → Appends w (learned_from_each m numbers w)
  appends_each [] w = appends_none w w refl
  appends_each (n ∷ numbers) w =
      appends_then w (after_found w (found_in n w)) (learned_from_each m numbers (after_found w (found_in n w))) (appends_found w (found_in n w)) (appends_each numbers (after_found w (found_in n w)))

  agrees_each : (numbers : List ℕ) (w : Wave) → GoesOn a w → first_passed w.totals ≡ None → Agrees (from_each (plain m) numbers (course_seen w)) (learned_from_each m numbers w)
  agrees_each [] w k none = (refl, none)
  agrees_each (n ∷ numbers) w k none =
      agrees_then (from_number (plain m) n (course_seen w)) (from_each (plain m) numbers) (after_found w (found_in n w)) (learned_from_each m numbers (after_found w (found_in n w))) (agrees_number n w k none)
      (λ later. agrees_each numbers (after_found w (found_in n w)) (number_goes_on n w k) later) (appends_each numbers (after_found w (found_in n w)))

  each_goes_on : (numbers : List ℕ) (w : Wave) → GoesOn a w → GoesOn a (learned_from_each m numbers w)
  each_goes_on [] w k = k
  each_goes_on (n ∷ numbers) w k = each_goes_on numbers (after_found w (found_in n w)) (number_goes_on n w k)

  -- ---- rounds

  pub none_next : (w : Wave) → GoesOn a w → GoesOn a (record w { next = [] })
  none_next w k = record { lawful = others_same a w [] k.lawful; held = k.held; rising = k.rising }

  appends_rounds : (n : ℕ) (w : Wave) → Appends w (repeated n (one_round m) w)
  appends_rounds zero w = appends_none w w refl
  appends_rounds (suc n) w =
      appends_then w (one_round m w) (repeated n (one_round m) (one_round m w))
      (appends_then w (record w { next = [] }) (one_round m w) (appends_none w (record w { next = [] }) refl) (appends_each w.next (record w { next = [] })))
      (appends_rounds n (one_round m w))

  agrees_rounds : (n : ℕ) (w : Wave) → GoesOn a w → first_passed w.totals ≡ None → Agrees (rounds_of (plain m) n (course_seen w)) (repeated n (one_round m) w)
  agrees_rounds zero w k none = (refl, none)
  agrees_rounds (suc n) w k none =
      agrees_then (round_of (plain m) (course_seen w)) (rounds_of (plain m) n) (one_round m w) (repeated n (one_round m) (one_round m w))
      (agrees_each w.next (record w { next = [] }) (none_next w k) none)
      (λ later. agrees_rounds n (one_round m w) (each_goes_on w.next (record w { next = [] }) (none_next w k)) later) (appends_rounds n (one_round m w))

  pub agrees_learning : (w : Wave) → GoesOn a w → first_passed w.totals ≡ None → Agrees (rounds_of (plain m) (length a.holding.goals) (course_seen w)) (with_learning m w)
  unfolding with_learning
  agrees_learning w k none = agrees_rounds (length a.holding.goals) w k none
