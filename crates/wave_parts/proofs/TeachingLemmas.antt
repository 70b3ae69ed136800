-- Rules that go by their numbers, and the explanations that stay.
use Rattle.std.proofs.Common.{◌≡◌, ◌∙◌, ℕ, ◌<◌, ◌==◌, ◌&&◌, ◌||◌, Bool, true, false, not, cond, List, [], ◌∷◌, map, filter, inl, inr, refl, sym, ap, subst, arith}
use Rattle.std.specs.List.{list_any}
use Rattle.std.proofs.lemmas.List.Elements.{filter_agree}
use Rattle.soar_sym.specs.Words.{Texts}
use Rattle.defs_match.specs.Rules.{RuleOf, rule_seen}
use Rattle.defs_soar.specs.Agents.{Learnt, LiveFiring}
use Rattle.defs_soar.specs.Laws.{IsIn}
use Rattle.defs_soar.specs.Start.{without_justifications}
use Rattle.defs_soar.specs.Waves.{is_spent, without_spent}
use Rattle.pending_work.specs.Firables.{AreNumbered, IsBelowRules}
use Rattle.program_laws.specs.Knowing.{AreChainsKnown}
use Rattle.settling_laws.proofs.MemberLemmas.{filter_within}
use Rattle.soar_settle.specs.Known.{AreRulesKnown}
use Rattle.wave_learning.specs.Hands.{learned_rule_seen}
use Rattle.wave_parts.specs.Programs.{AreExplained, chains_of, is_explained_in, is_justified, numbers_where, program_of}
use Rattle.wave_parts.specs.Seen.{AreUpTo, IsSound}
use Rattle.wave_parts.specs.Teaching.{is_numbered_among, numbers_among, without_numbers}
use Rattle.wave_parts.specs.declared.parts.Parts.{Parts as PartsKept}
use Rattle.wave_parts.proofs.ExplainedLemmas.{left_explained}

-- ---- rules that pass

below_filter : (p : RuleOf → Bool) (number : ℕ) (rules : List RuleOf) → IsBelowRules number rules → IsBelowRules number (filter p rules)
below_filter p number [] h = tt
below_filter p number (rule ∷ rules) h = by (p rule) (below_filter p number rules h.1)
  where
    by : (b : Bool) → IsBelowRules number (filter p rules) → IsBelowRules number (cond b (rule ∷ filter p rules) (filter p rules))
    by true later = (h.0, later)
    by false later = later

pub numbered_filter : (p : RuleOf → Bool) (rules : List RuleOf) → AreNumbered rules → AreNumbered (filter p rules)
numbered_filter p [] h = tt
numbered_filter p (rule ∷ rules) h = by (p rule) (numbered_filter p rules h.1)
  where
    by : (b : Bool) → AreNumbered (filter p rules) → AreNumbered (cond b (rule ∷ filter p rules) (filter p rules))
    by true later = (below_filter p rule.number rules h.0, later)
    by false later = later

pub up_to_filter : (p : RuleOf → Bool) (last : ℕ) (rules : List RuleOf) → AreUpTo last rules → AreUpTo last (filter p rules)
up_to_filter p last [] h = tt
up_to_filter p last (rule ∷ rules) h = by (p rule) (up_to_filter p last rules h.1)
  where
    by : (b : Bool) → AreUpTo last (filter p rules) → AreUpTo last (cond b (rule ∷ filter p rules) (filter p rules))
    by true later = (h.0, later)
    by false later = later

pub rules_filter : (p : RuleOf → Bool) (words : Texts) (rules : List RuleOf) → AreRulesKnown words rules → AreRulesKnown words (filter p rules)
rules_filter p words [] h = tt
rules_filter p words (rule ∷ rules) h = by (p rule) (rules_filter p words rules h.1)
  where
    by : (b : Bool) → AreRulesKnown words (filter p rules) → AreRulesKnown words (cond b (rule ∷ filter p rules) (filter p rules))
    by true later = (h.0, later)
    by false later = later

-- ---- rules by their numbers

pub filter_alike : {A : Type 0} (p q : A → Bool) (xs : List A) → ((x : A) → IsIn x xs → p x ≡ q x) → filter p xs ≡ filter q xs
filter_alike p q [] same = refl
filter_alike p q (x ∷ xs) same = λ k. cond (same x (inl refl) k) (x ∷ filter_alike p q xs (λ y is. same y (inr is)) k) (filter_alike p q xs (λ y is. same y (inr is)) k)

same_number : (n : ℕ) → (n == n) ≡ true
same_number n = grind arith

less_number : (n m : ℕ) → n < m → (n == m) ≡ false
less_number n m h = grind arith

more_number : (n m : ℕ) → n < m → (m == n) ≡ false
more_number n m h = grind arith

below_in : (n : ℕ) (rules : List RuleOf) (rule : RuleOf) → IsBelowRules n rules → IsIn rule rules → n < rule.number
below_in n [] rule h is = absurd is
below_in n (r ∷ rules) rule h (inl e) = subst (λ (x : RuleOf). n < x.number) e h.0
below_in n (r ∷ rules) rule h (inr is) = below_in n rules rule h.1 is

none_below : (p : RuleOf → Bool) (n : ℕ) (rules : List RuleOf) → IsBelowRules n rules → list_any (λ number. number == n) (numbers_where p rules) ≡ false
none_below p n [] h = refl
none_below p n (rule ∷ rules) h = by (p rule) (none_below p n rules h.1)
  where
    by : (b : Bool) → list_any (λ number. number == n) (numbers_where p rules) ≡ false
        → list_any (λ number. number == n) (map (λ (r : RuleOf). r.number) (cond b (rule ∷ filter p rules) (filter p rules))) ≡ false
    by true later = ap (λ b. b || list_any (λ number. number == n) (numbers_where p rules)) (more_number n rule.number h.0) ∙ later
    by false later = later

-- each rule passes where its number is among those that do
pub among_is : (p : RuleOf → Bool) (rules : List RuleOf) (rule : RuleOf) → AreNumbered rules → IsIn rule rules → is_numbered_among (numbers_where p rules) rule ≡ p rule
among_is p [] rule h is = absurd is
among_is p (r ∷ rules) rule h (inl e) = with_this (p r) ∙ ap p e
  where
    with_this : (b : Bool) → list_any (λ number. number == rule.number) (map (λ (x : RuleOf). x.number) (cond b (r ∷ filter p rules) (filter p rules))) ≡ b
    with_this true = ap (λ b. b || list_any (λ number. number == rule.number) (numbers_where p rules)) (ap (λ (x : RuleOf). r.number == x.number) (sym e) ∙ same_number r.number)
    with_this false = none_below p rule.number rules (subst (λ (x : RuleOf). IsBelowRules x.number rules) e h.0)
among_is p (r ∷ rules) rule h (inr is) = by (p r) (among_is p rules rule h.1 is)
  where
    by : (b : Bool) → is_numbered_among (numbers_where p rules) rule ≡ p rule
        → list_any (λ number. number == rule.number) (map (λ (x : RuleOf). x.number) (cond b (r ∷ filter p rules) (filter p rules))) ≡ p rule
    by true later = ap (λ b. b || is_numbered_among (numbers_where p rules) rule) (less_number r.number rule.number (below_in r.number rules rule h.0 is)) ∙ later
    by false later = later

-- the others are those without these numbers
pub without_where : (p : RuleOf → Bool) (rules : List RuleOf) → AreNumbered rules → without_numbers (numbers_where p rules) rules ≡ filter (λ rule. not (p rule)) rules
without_where p rules h = filter_alike (λ rule. not (is_numbered_among (numbers_where p rules) rule)) (λ rule. not (p rule)) rules (λ rule is. ap not (among_is p rules rule h is))

pub among_where : (p : RuleOf → Bool) (rules : List RuleOf) → AreNumbered rules → numbers_where p rules ≡ numbers_among (numbers_where p rules) rules
among_where p rules h =
    ap (map (λ (rule : RuleOf). rule.number)) (sym (filter_alike (is_numbered_among (numbers_where p rules)) p rules (λ rule is. among_is p rules rule h is)))

-- ---- explanations

and_true : (b : Bool) → b ≡ (b && true)
and_true true = refl
and_true false = refl

and_false : (b : Bool) → false ≡ (b && false)
and_false true = refl
and_false false = refl

any_filtered : (p q : RuleOf → Bool) (rules : List RuleOf) → list_any p (filter q rules) ≡ list_any (λ rule. p rule && q rule) rules
any_filtered p q [] = refl
any_filtered p q (rule ∷ rules) = by (q rule) (any_filtered p q rules)
  where
    by : (b : Bool) → list_any p (filter q rules) ≡ list_any (λ r. p r && q r) rules → list_any p (cond b (rule ∷ filter q rules) (filter q rules)) ≡ ((p rule && b) || list_any (λ r. p r && q r) rules)
    by true later = λ k. and_true (p rule) k || later k
    by false later = later ∙ ap (λ b. b || list_any (λ r. p r && q r) rules) (and_false (p rule))

-- ---- programs

-- these rules are left, with their explanations
pub record IsLeftWith (old new : PartsKept) (numbers : List ℕ) : Type 0 where
  pub rules_are : map rule_seen new.rules ≡ without_numbers numbers (map rule_seen old.rules)
  pub chains_are : map learned_rule_seen new.chains ≡ chains_of (map rule_seen new.rules) (map learned_rule_seen old.chains)
  pub same : new ≡ record old { rules = new.rules; chains = new.chains }

program_left : (old new : PartsKept) (numbers : List ℕ) (rules : List RuleOf) → IsLeftWith old new numbers → map rule_seen new.rules ≡ rules
    → program_of new ≡ record (program_of old) { rules = rules; chains = chains_of rules (map learned_rule_seen old.chains) }
program_left old new numbers rules left are =
    ap program_of left.same ∙ (λ k. record (program_of old) { rules = are k; chains = (left.chains_are ∙ ap (λ rs. chains_of rs (map learned_rule_seen old.chains)) are) k })

rules_left : (p : RuleOf → Bool) (old new : PartsKept) (numbers : List ℕ) → AreNumbered (map rule_seen old.rules) → numbers ≡ numbers_where p (map rule_seen old.rules) → IsLeftWith old new numbers
    → map rule_seen new.rules ≡ filter (λ rule. not (p rule)) (map rule_seen old.rules)
rules_left p old new numbers numbered is left = left.rules_are ∙ ap (λ ns. without_numbers ns (map rule_seen old.rules)) is ∙ without_where p (map rule_seen old.rules) numbered

pub justifications_left : (old new : PartsKept) (numbers : List ℕ) → AreNumbered (map rule_seen old.rules) → numbers ≡ numbers_where is_justified (map rule_seen old.rules) → IsLeftWith old new numbers
    → program_of new ≡ without_justifications (program_of old)
justifications_left old new numbers numbered is left =
    program_left old new numbers (filter (λ rule. not (is_justified rule)) (map rule_seen old.rules)) left (rules_left is_justified old new numbers numbered is left)

pub spent_left : (gone : List LiveFiring) (old new : PartsKept) (numbers : List ℕ) → AreNumbered (map rule_seen old.rules) → numbers ≡ numbers_where (is_spent gone) (map rule_seen old.rules) → IsLeftWith old new numbers
    → program_of new ≡ without_spent gone (program_of old)
spent_left gone old new numbers numbered is left =
    let old_rules = map rule_seen old.rules in
    let kept = filter (λ rule. not (is_spent gone rule)) old_rules in
    program_left old new numbers kept left (rules_left (is_spent gone) old new numbers numbered is left)
    ∙ ap (λ (chains : List Learnt). record (program_of old) { rules = kept; chains = chains })
    (filter_agree (is_explained_in kept) (λ learnt. list_any (λ rule. (rule.number == learnt.rule) && not (is_spent gone rule)) old_rules)
    (λ learnt. any_filtered (λ rule. rule.number == learnt.rule) (λ rule. not (is_spent gone rule)) old_rules) (map learned_rule_seen old.chains))

pub numbers_left : (p : RuleOf → Bool) (rules : List RuleOf) (numbers : List ℕ) → AreNumbered rules → numbers ≡ numbers_where p rules → numbers ≡ numbers_among numbers rules
numbers_left p rules numbers numbered is = is ∙ among_where p rules numbered ∙ ap (λ ns. numbers_among ns rules) (sym is)

-- ---- what is sound stays so

pub sound_left : (old new : PartsKept) (numbers : List ℕ) → IsSound old → IsLeftWith old new numbers → IsSound new
sound_left old new numbers s left =
    let old_rules = map rule_seen old.rules in
    let p : RuleOf → Bool = λ rule. not (is_numbered_among numbers rule) in
    subst IsSound (sym left.same) (record {
      goals_some = s.goals_some;
      goals_few = s.goals_few;
      goals_known = s.goals_known;
      depends_fit = s.depends_fit;
      doubted = s.doubted;
      element_limit = s.element_limit;
      row_limit = s.row_limit;
      few_rows = s.few_rows;
      rows_in_range = s.rows_in_range;
      rows_of_firings = s.rows_of_firings;
      makers_of_firings = s.makers_of_firings;
      recorded_up_to = s.recorded_up_to;
      makers_earlier = s.makers_earlier;
      first_words = s.first_words;
      top_numbered = s.top_numbered;
      numbered = subst AreNumbered (sym left.rules_are) (numbered_filter p old_rules s.numbered);
      numbers_given = subst (AreUpTo old.last_rule) (sym left.rules_are) (up_to_filter p old.last_rule old_rules s.numbers_given);
      rules_known = subst (AreRulesKnown old.table) (sym left.rules_are) (rules_filter p old.table old_rules s.rules_known);
      elements_known = s.elements_known;
      rows_known = s.rows_known;
      inputs_known = s.inputs_known;
      queue_known = s.queue_known;
      output_known = s.output_known;
      live_known = s.live_known;
      live_given = s.live_given;
      kept_up = s.kept_up;
      kept_ids = s.kept_ids;
      past_named = s.past_named;
      chains_known =
          subst (AreChainsKnown old.table) (sym left.chains_are)
          (λ l is. s.chains_known l (filter_within (is_explained_in (map rule_seen new.rules)) (map learned_rule_seen old.chains) l is));
      chains_kept = subst (AreExplained (map rule_seen new.rules)) (sym left.chains_are) (left_explained (map rule_seen new.rules) (map learned_rule_seen old.chains));
    })
