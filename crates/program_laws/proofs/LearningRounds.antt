-- What each step of learning keeps in a lawful wave, learning keeps.
use Rattle.std.proofs.Common.{refl, ℕ, zero, suc, nat_lt, Bool, true, false, ◌==◌, ◌&&◌, cond, inl, List, [], ◌∷◌, filter, length}
use Rattle.std.specs.List.{list_any}
use Rattle.soar_rule.specs.Repeat.{repeated}
use Rattle.defs_soar.specs.Agents.{Agent}
use Rattle.defs_soar.specs.Laws.{IsIn}
use Rattle.defs_soar.specs.Learning.{learned_from, learned_from_each, one_round, with_learning}
use Rattle.defs_soar.specs.LearnedRules.{after_explanation}
use Rattle.defs_soar.specs.Results.{is_result}
use Rattle.defs_soar.specs.WaveAtHand.{all_fresh, Fresh, Wave}
use Rattle.defs_soar.specs.WaveFirings.{before_wave}
use Rattle.learning_laws.specs.LawfulAgents.{IsLawfulAgent}
use Rattle.learning_laws.specs.LawfulWaves.{explained_in, IsLawfulWave}
use Rattle.learning_laws.proofs.ChunkJoins.{learning_steps_keep}
use Rattle.learning_laws.proofs.Lists.{filter_within}

module _ (a : Agent) (h : IsLawfulAgent a) (P : Wave → Type 0) (others : (v : Wave) → P v → P (record v { next = [] })) (keeps : (v : Wave) (x : Fresh) → IsLawfulWave a v → IsIn x (all_fresh v.entries) → P v → P (after_explanation (before_wave a) (explained_in a v x.firing) v)) where
  -- a lawful wave of which it holds
  record Is (v : Wave) : Type 0 where
    lawful : IsLawfulWave a v
    holds : P v

  begun : (v : Wave) → Is v → Is (record v { next = [] })
  begun v k = record {
    lawful = let l = k.lawful in record { founded = l.founded; wishes = l.wishes; counted = l.counted; later = l.later; explains = l.explains; can = l.can };
    holds = others v k.holds;
  }

  each_is : (numbers : List ℕ) (v : Wave) → Is v → Is (learned_from_each (before_wave a) numbers v)
  each_is [] v k = k
  each_is (n ∷ numbers) v k =
      go (filter (λ x. x.firing.number == n) (all_fresh v.entries)) (λ x i. (filter_within (λ x. x.firing.number == n) (all_fresh v.entries) x i).0) (λ u l. each_is numbers u l)
    where
      one : (x : Fresh) → IsIn x (all_fresh v.entries) → (b : Bool) → Is (cond b (after_explanation (before_wave a) (explained_in a v x.firing) v) v)
      one x i true = record { lawful = learning_steps_keep a v x h k.lawful i; holds = keeps v x k.lawful i k.holds }
      one x i false = k

      go : (found : List Fresh) → ((x : Fresh) → IsIn x found → IsIn x (all_fresh v.entries)) → ((u : Wave) → Is u → Is (learned_from_each (before_wave a) numbers u))
          → Is (learned_from_each (before_wave a) numbers (elim found as (λ y. Wave) [ [] ↦ v | x ∷ others ↦ learned_from (before_wave a) x.firing v ]))
      go [] within later = later v k
      go (x ∷ others) within later =
          later (learned_from (before_wave a) x.firing v) (one x (within x (inl refl)) (nat_lt 1 x.firing.depth && list_any (is_result (before_wave a).reach x.firing.depth) x.firing.made))

  rounds_are : (n : ℕ) (v : Wave) → Is v → Is (repeated n (one_round (before_wave a)) v)
  rounds_are zero v k = k
  rounds_are (suc n) v k = rounds_are n (one_round (before_wave a) v) (each_is v.next (record v { next = [] }) (begun v k))

  pub learning_holds : (w : Wave) → IsLawfulWave a w → P w → P (with_learning (before_wave a) w)
  unfolding with_learning
  learning_holds w k p = (rounds_are (length a.holding.goals) w (record { lawful = k; holds = p })).holds
