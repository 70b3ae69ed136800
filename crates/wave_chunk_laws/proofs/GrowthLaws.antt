-- Rules and explanations that a wave holds are there as long as it learns.
use Rattle.std.proofs.Common.{◌≡◌, refl, sym, ap, subst, ℕ, zero, suc, nat_lt, Bool, true, false, ◌==◌, ◌&&◌, cond, List, [], ◌∷◌, ◌++◌, filter}
use Rattle.std.specs.List.{list_any}
use Rattle.soar_rule.specs.Repeat.{repeated}
use Rattle.defs_match.specs.Rules.{RuleOf}
use Rattle.defs_soar.specs.Agents.{Learnt}
use Rattle.defs_soar.specs.Laws.{IsIn}
use Rattle.defs_soar.specs.LearnedFirings.{ExplainedFiring}
use Rattle.defs_soar.specs.LearnedRules.{after_explanation, as_learning, by_outcome, names_joining, with_joined_word, with_names}
use Rattle.defs_soar.specs.Learning.{learned_from, learned_from_each, explained_on, one_round}
use Rattle.defs_soar.specs.Outcome.{blocked, chunked, groundless, justified, lost, Outcome, outcome_of, reused}
use Rattle.defs_soar.specs.Results.{is_result, results_of}
use Rattle.defs_soar.specs.WaveAtHand.{all_fresh, BeforeWave, Fresh, Wave}
use Rattle.learning_laws.proofs.Lists.{in_left}

pub record Keeps (w v : Wave) : Type 0 where
  pub rules : (rule : RuleOf) → IsIn rule w.program.rules → IsIn rule v.program.rules
  pub chains : (l : Learnt) → IsIn l w.program.chains → IsIn l v.program.chains

pub kept : (w : Wave) → Keeps w w
kept w = record { rules = λ rule i. i; chains = λ l i. i }

pub then_kept : (u v w : Wave) → Keeps u v → Keeps v w → Keeps u w
then_kept u v w h k = record { rules = λ rule i. k.rules rule (h.rules rule i); chains = λ l i. k.chains l (h.chains l i) }

names_keep : (texts : List (List ℕ)) (w : Wave) → Keeps w (with_names texts w)
names_keep [] w = kept w
names_keep (text ∷ texts) w = let h = names_keep texts (with_joined_word text w) in record { rules = h.rules; chains = h.chains }

outcome_keeps : (m : BeforeWave) (l : ExplainedFiring) (w : Wave) (o : Outcome) → Keeps w (by_outcome m l w o)
outcome_keeps m l w (lost tag) = record { rules = λ rule i. i; chains = λ c i. i }
outcome_keeps m l w (blocked b) = record { rules = λ rule i. i; chains = λ c i. i }
outcome_keeps m l w groundless = record { rules = λ rule i. i; chains = λ c i. i }
outcome_keeps m l w (reused name) = record { rules = λ rule i. i; chains = λ c i. i }
outcome_keeps m l w (justified why) = record { rules = λ rule i. in_left rule w.program.rules _ i; chains = λ c i. in_left c w.program.chains _ i }
outcome_keeps m l w chunked = record { rules = λ rule i. in_left rule w.program.rules _ i; chains = λ c i. in_left c w.program.chains _ i }

pub explanation_keeps : (m : BeforeWave) (l : ExplainedFiring) (w : Wave) → Keeps w (after_explanation m l w)
explanation_keeps m l w =
    let read = with_names (names_joining w.names.words l.chain l.explained.depth) w in
    then_kept w read (after_explanation m l w) (names_keep (names_joining w.names.words l.chain l.explained.depth) w)
    (outcome_keeps m l read (outcome_of read.names.words l.chain l.explained.depth read.program.rules m.elements (as_learning m.settings read.learned)))

pub each_keeps : (m : BeforeWave) (numbers : List ℕ) (w : Wave) → Keeps w (learned_from_each m numbers w)
each_keeps m [] w = kept w
each_keeps m (n ∷ numbers) w = go (filter (λ x. x.firing.number == n) (all_fresh w.entries)) (λ u h. then_kept w u (learned_from_each m numbers u) h (each_keeps m numbers u))
  where
    one : (x : Fresh) (b : Bool) → Keeps w (cond b (after_explanation m (explained_on m x.firing (results_of w.names.words m.reach m.rows x.firing)) w) w)
    one x true = explanation_keeps m (explained_on m x.firing (results_of w.names.words m.reach m.rows x.firing)) w
    one x false = kept w

    go : (found : List Fresh) → ((u : Wave) → Keeps w u → Keeps w (learned_from_each m numbers u))
        → Keeps w (learned_from_each m numbers (elim found as (λ y. Wave) [ [] ↦ w | x ∷ others ↦ learned_from m x.firing w ]))
    go [] later = later w (kept w)
    go (x ∷ others) later = later (learned_from m x.firing w) (one x (nat_lt 1 x.firing.depth && list_any (is_result m.reach x.firing.depth) x.firing.made))

pub round_keeps : (m : BeforeWave) (w : Wave) → Keeps w (one_round m w)
round_keeps m w = let h = each_keeps m w.next (record w { next = [] }) in record { rules = h.rules; chains = h.chains }

pub rounds_keep : (m : BeforeWave) (n : ℕ) (w : Wave) → Keeps w (repeated n (one_round m) w)
rounds_keep m zero w = kept w
rounds_keep m (suc n) w = then_kept w (one_round m w) (repeated n (one_round m) (one_round m w)) (round_keeps m w) (rounds_keep m n (one_round m w))
