-- Steps of the code, one after the other.
use Rattle.std.proofs.Common.{◌≡◌, ◌<◌, refl, sym, ◌∙◌, ap, ℕ, suc, ◌+◌, List, [], ◌∷◌, length, drop, get_or, Option, Some, None, add-one, drop-cons}
use Rattle.soar_sym.specs.Words.{Texts}
use Rattle.defs_text.specs.Numbered.{word_in}
use Rattle.defs_soar.specs.declared.learning.Cause.{Cause}
use Rattle.defs_soar.specs.declared.limit.Which.{Which}
use Rattle.defs_soar.specs.CandidateOf.{LearnedOf, learned_by, words_of_candidate}
use Rattle.defs_soar.specs.Limits.{Total, counts_to, first_passed, or_limit, passed_by}
use Rattle.defs_soar.specs.Outcome.{Outcome, blocked, chunked, groundless, justified, lost, reused}
use Rattle.defs_soar.specs.WaveAtHand.{BeforeWave}
use Rattle.learned_firings.specs.NameTotals.{totals_of_name}
use Rattle.wave_learning.specs.Course.{Course, ExplainedBy, NewRuleOf, by_learned_of, by_outcome_of, counted, from_each, from_number, front_of, joined, joined_as, joining_of, learned, name_of, named, named_as, number_of, outcome_in, reached, rounds_of, round_of, stopped, taught, then_on, totals_of_words, with_name, within_limits}

-- ---- numbers in turn

drop_number : (numbers : List ℕ) (i n z : ℕ) → i < length numbers → n ≡ get_or numbers i z → drop i numbers ≡ n ∷ drop (i + 1) numbers
drop_number numbers i n z within at = drop-cons numbers i z within ∙ rw (← at, add-one i) refl

pub next_each : (m : BeforeWave) (numbers : List ℕ) (i n z : ℕ) (c d : Course) → i < length numbers → n ≡ get_or numbers i z → from_number m n c ≡ reached d
    → from_each m (drop i numbers) c ≡ from_each m (drop (i + 1) numbers) d
next_each m numbers i n z c d within at q =
    ap (λ (left : List ℕ). from_each m left c) (drop_number numbers i n z within at) ∙ ap (λ p. then_on p (from_each m (drop (i + 1) numbers))) q

pub stop_each : (m : BeforeWave) (numbers : List ℕ) (i n z : ℕ) (c : Course) (limit : Which) → i < length numbers → n ≡ get_or numbers i z → from_number m n c ≡ stopped limit
    → from_each m (drop i numbers) c ≡ stopped limit
stop_each m numbers i n z c limit within at q =
    ap (λ (left : List ℕ). from_each m left c) (drop_number numbers i n z within at) ∙ ap (λ p. then_on p (from_each m (drop (i + 1) numbers))) q

-- ---- rounds

pub next_round : (m : BeforeWave) (k left : ℕ) (c d : Course) → k ≡ suc left → round_of m c ≡ reached d → rounds_of m k c ≡ rounds_of m left d
next_round m k left c d is q = ap (λ (n : ℕ). rounds_of m n c) is ∙ ap (λ p. then_on p (rounds_of m left)) q

pub stop_round : (m : BeforeWave) (k left : ℕ) (c : Course) (limit : Which) → k ≡ suc left → round_of m c ≡ stopped limit → rounds_of m k c ≡ stopped limit
stop_round m k left c limit is q = ap (λ (n : ℕ). rounds_of m n c) is ∙ ap (λ p. then_on p (rounds_of m left)) q

-- ---- an explanation

by_same : (m : BeforeWave) (e : ExplainedBy) (d : Course) (o : Outcome) → by_learned_of m e d (learned_by d.words e.chain e.depth o) ≡ by_outcome_of m e d o
by_same m e d chunked = refl
by_same m e d (justified why) = refl
by_same m e d groundless = refl
by_same m e d (reused name) = refl
by_same m e d (lost tag) = refl
by_same m e d (blocked b) = refl

module _ (m : BeforeWave) (e : ExplainedBy) (c : Course) where
  pub taught_on : (later : Texts) (it : LearnedOf) → first_passed (totals_of_words c.words (joining_of e c)) ≡ None → later ≡ words_of_candidate c.words e.chain e.depth
      → it ≡ learned_by later e.chain e.depth (outcome_in m e (record c { words = later })) → taught m e c ≡ by_learned_of m e (record c { words = later }) it
  taught_on later it within is q =
      ap (λ (o : Option Which). then_on (within_limits o (record c { words = words_of_candidate c.words e.chain e.depth })) (λ d. by_outcome_of m e d (outcome_in m e d))) within
      ∙ ap (λ (ws : Texts). by_outcome_of m e (record c { words = ws }) (outcome_in m e (record c { words = ws }))) (sym is)
      ∙ sym (ap (by_learned_of m e (record c { words = later })) q ∙ by_same m e (record c { words = later }) (outcome_in m e (record c { words = later })))

  pub taught_stops : (limit : Which) → first_passed (totals_of_words c.words (joining_of e c)) ≡ Some limit → taught m e c ≡ stopped limit
  taught_stops limit q = ap (λ (o : Option Which). then_on (within_limits o (record c { words = words_of_candidate c.words e.chain e.depth })) (λ d. by_outcome_of m e d (outcome_in m e d))) q

-- ---- a rule

module _ (m : BeforeWave) (e : ExplainedBy) (r : NewRuleOf) (c : Course) where
  pub learned_on : (it : NewRuleOf) (d : Course) → named r.why c ≡ reached d → it ≡ with_name r (word_in d.words (name_of r.why c)) → learned m e r c ≡ joined m e it d
  learned_on it d q is = ap (λ p. then_on p (λ d. joined m e (with_name r (word_in d.words (name_of r.why c))) d)) q ∙ ap (λ s. joined m e s d) (sym is)

  pub learned_stops : (limit : Which) → named r.why c ≡ stopped limit → learned m e r c ≡ stopped limit
  learned_stops limit q = ap (λ p. then_on p (λ d. joined m e (with_name r (word_in d.words (name_of r.why c))) d)) q

-- a name leaves the entries as they are
pub named_keeps : (why : Option Cause) (c d : Course) → named why c ≡ reached d → c.entries ≡ d.entries
named_keeps why c d q = go (first_passed (totals_of_name c.words (front_of why) (number_of why c))) q
  where
    same : reached (named_as why c) ≡ reached d → named_as why c ≡ d
    same r = cc

    kept : (w : Option Cause) (n : ℕ) → c.entries ≡ (counted w n c).entries
    kept None n = refl
    kept (Some cause) n = refl

    go : (o : Option Which) → within_limits o (named_as why c) ≡ reached d → c.entries ≡ d.entries
    go None r = kept why (number_of why c) ∙ ap (λ (x : Course). x.entries) (same r)
    go (Some limit) r = absurd (cc)

-- ---- limits

pub both_within : (d f : Total) → first_passed (d ∷ []) ≡ None → first_passed (f ∷ []) ≡ None → first_passed (d ∷ f ∷ []) ≡ None
both_within d f a b = go (passed_by d) a
  where
    go : (o : Option Which) → or_limit o None ≡ None → or_limit o (first_passed (f ∷ [])) ≡ None
    go None q = b
    go (Some limit) q = absurd (cc)

pub first_over : (d f : Total) (limit : Which) → first_passed (d ∷ []) ≡ Some limit → first_passed (d ∷ f ∷ []) ≡ Some limit
first_over d f limit a = go (passed_by d) a
  where
    go : (o : Option Which) → or_limit o None ≡ Some limit → or_limit o (first_passed (f ∷ [])) ≡ Some limit
    go None q = absurd (cc)
    go (Some other) q = q

pub second_over : (d f : Total) (limit : Which) → first_passed (d ∷ []) ≡ None → first_passed (f ∷ []) ≡ Some limit → first_passed (d ∷ f ∷ []) ≡ Some limit
second_over d f limit a b = go (passed_by d) a
  where
    go : (o : Option Which) → or_limit o None ≡ None → or_limit o (first_passed (f ∷ [])) ≡ Some limit
    go None q = b
    go (Some other) q = absurd (cc)

-- ---- a joined rule

pub joins_on : (m : BeforeWave) (e : ExplainedBy) (r : NewRuleOf) (c d : Course) → first_passed (counts_to (suc c.program.last_rule) ∷ []) ≡ None → first_passed (counts_to (suc c.last) ∷ []) ≡ None
    → joined_as m e r (suc c.program.last_rule) (suc c.last) c ≡ d → joined m e r c ≡ reached d
joins_on m e r c d a b q =
    ap (λ (o : Option Which). within_limits o (joined_as m e r (suc c.program.last_rule) (suc c.last) c)) (both_within (counts_to (suc c.program.last_rule)) (counts_to (suc c.last)) a b) ∙ ap reached q

pub joins_over : (m : BeforeWave) (e : ExplainedBy) (r : NewRuleOf) (c : Course) (limit : Which) → first_passed (counts_to (suc c.program.last_rule) ∷ counts_to (suc c.last) ∷ []) ≡ Some limit → joined m e r c ≡ stopped limit
joins_over m e r c limit q = ap (λ (o : Option Which). within_limits o (joined_as m e r (suc c.program.last_rule) (suc c.last) c)) q
