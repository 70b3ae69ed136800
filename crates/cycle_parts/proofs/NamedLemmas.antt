-- Rules of a name that go one by one, by their numbers, and their explanations.
use Rattle.std.proofs.Common.{◌≡◌, ℕ, ◌<◌, ◌≤◌, ◌==◌, ◌&&◌, ◌||◌, Bool, true, false, not, cond, List, [], ◌∷◌, length, map, filter, Option, Some, None, option_map, refl, sym, ap, subst, ◌∙◌, arith}
use Rattle.std.specs.List.{list_any}
use Rattle.soar_sym.specs.declared.symbol.Sym.{Sym}
use Rattle.defs_match.specs.Contents.{HasRule, is_numbered, rule_numbered, without_rule}
use Rattle.defs_match.specs.Rules.{RuleOf}
use Rattle.defs_run.specs.Carrying.{is_named, rule_named}
use Rattle.defs_soar.specs.Agents.{Learnt}
use Rattle.matching_laws.proofs.TagLemmas.{below_apart, itself}
use Rattle.pending_work.specs.Firables.{AreNumbered, IsBelowRules}
use Rattle.rule_shelf.specs.Shelf.{AreAbove, IsRising}
use Rattle.cycle_parts.specs.Dropping.{is_found_so, is_of_name, unnamed, unnamed_chains}
use Rattle.cycle_parts.proofs.NumberLemmas.{or_true, without_none}

-- ---- the first rule of a name

abbrev number_named : Sym → List RuleOf → Option ℕ
number_named name rules = option_map (λ (rule : RuleOf). rule.number) (rule_named rules name)

same_number : (m n : ℕ) → Some n ≡ Some m → n ≡ m
same_number m n e = cc

pub named_there : (name : Sym) (rules : List RuleOf) (n : ℕ) → Some n ≡ number_named name rules → HasRule rules n
named_there name [] n is = absurd (cc)
named_there name (rule ∷ rules) n is = by (is_named name rule) is (λ later. named_there name rules n later)
  where
    by : (b : Bool) → Some n ≡ option_map (λ (r : RuleOf). r.number) (cond b (Some rule) (rule_named rules name)) → (Some n ≡ number_named name rules → HasRule rules n) → HasRule (rule ∷ rules) n
    by true e later =
        ap (λ b. b || list_any (is_numbered n) rules) (ap (λ m. rule.number == m) (same_number rule.number n e) ∙ itself rule.number)
    by false e later = ap (λ b. is_numbered n rule || b) (later e) ∙ or_true (is_numbered n rule)

below_there : (m : ℕ) (rules : List RuleOf) (n : ℕ) → IsBelowRules m rules → HasRule rules n → m < n
below_there m [] n below there = absurd (cc)
below_there m (rule ∷ rules) n below there = by (rule.number == n) refl there (λ later. below_there m rules n below.1 later)
  where
    by : (b : Bool) → (rule.number == n) ≡ b → (b || list_any (is_numbered n) rules) ≡ true → (HasRule rules n → m < n) → m < n
    by true is e later = let low : m < rule.number = below.0 in grind arith
    by false is e later = later e

pub named_goes : (name : Sym) (rules : List RuleOf) (n : ℕ) → AreNumbered rules → Some n ≡ number_named name rules → unnamed name (without_rule rules n) ≡ unnamed name rules
named_goes name [] n numbered is = refl
named_goes name (rule ∷ rules) n numbered is = by (is_named name rule) refl is (λ later. named_goes name rules n numbered.1 later)
  where
    by : (b : Bool) → is_named name rule ≡ b → Some n ≡ option_map (λ (r : RuleOf). r.number) (cond b (Some rule) (rule_named rules name))
        → (Some n ≡ number_named name rules → unnamed name (without_rule rules n) ≡ unnamed name rules)
        → unnamed name (without_rule (rule ∷ rules) n) ≡ cond (not (is_named name rule)) (rule ∷ unnamed name rules) (unnamed name rules)
    by true named e later =
        ap (λ m. unnamed name (without_rule (rule ∷ rules) m)) (same_number rule.number n e)
        ∙ ap (λ b. unnamed name (cond (not b) (rule ∷ without_rule rules rule.number) (without_rule rules rule.number))) (itself rule.number)
        ∙ ap (unnamed name) (without_none rule.number rules numbered.0)
        ∙ sym (ap (λ b. cond (not b) (rule ∷ unnamed name rules) (unnamed name rules)) named)
    by false named e later =
        ap (λ b. unnamed name (cond (not b) (rule ∷ without_rule rules n) (without_rule rules n))) (below_apart rule.number n (below_there rule.number rules n numbered.0 (named_there name rules n e)))
        ∙ ap (λ (l : List RuleOf). cond (not (is_named name rule)) (rule ∷ l) l) (later e)

pub none_named : (name : Sym) (rules : List RuleOf) → None ≡ number_named name rules → unnamed name rules ≡ rules
none_named name [] is = refl
none_named name (rule ∷ rules) is = by (is_named name rule) is (λ later. none_named name rules later)
  where
    by : (b : Bool) → None ≡ option_map (λ (r : RuleOf). r.number) (cond b (Some rule) (rule_named rules name)) → (None ≡ number_named name rules → unnamed name rules ≡ rules)
        → cond (not b) (rule ∷ unnamed name rules) (unnamed name rules) ≡ rule ∷ rules
    by true e later = absurd (cc)
    by false e later = ap (λ (l : List RuleOf). rule ∷ l) (later e)

-- ---- there are less of them

no_more : (n : ℕ) (rules : List RuleOf) → length (without_rule rules n) ≤ length rules
no_more n [] = omega arith
no_more n (rule ∷ rules) = by (is_numbered n rule) (no_more n rules)
  where
    by : (b : Bool) → length (without_rule rules n) ≤ length rules → length (cond (not b) (rule ∷ without_rule rules n) (without_rule rules n)) ≤ length (rule ∷ rules)
    by true less = omega (arith, less)
    by false less = omega (arith, less)

pub one_less : (n : ℕ) (rules : List RuleOf) → HasRule rules n → length (without_rule rules n) < length rules
one_less n [] there = absurd (cc)
one_less n (rule ∷ rules) there = by (is_numbered n rule) there (λ later. one_less n rules later)
  where
    by : (b : Bool) → (b || list_any (is_numbered n) rules) ≡ true → (HasRule rules n → length (without_rule rules n) < length rules)
        → length (cond (not b) (rule ∷ without_rule rules n) (without_rule rules n)) < length (rule ∷ rules)
    by true e later = let less = no_more n rules in omega (arith, less)
    by false e later = let less = later e in omega (arith, less)

-- ---- explanations

none_numbered : (name : Sym) (n : ℕ) (rules : List RuleOf) → AreAbove n rules → list_any (λ rule. (rule.number == n) && is_named name rule) rules ≡ false
none_numbered name n [] above = refl
none_numbered name n (rule ∷ rules) above =
    ap (λ b. (b && is_named name rule) || list_any (λ r. (r.number == n) && is_named name r) rules) (apart rule.number n above.0) ∙ none_numbered name n rules above.1
  where
    apart : (m k : ℕ) → k < m → (m == k) ≡ false
    apart m k h = grind arith

pub found_so : (name : Sym) (rules : List RuleOf) (n : ℕ) → IsRising rules → is_found_so name (rule_numbered n rules) ≡ is_of_name name rules n
found_so name [] n rising = refl
found_so name (rule ∷ rules) n rising = by (rule.number == n) refl (found_so name rules n rising.1)
  where
    others : Bool
    others = list_any (λ r. (r.number == n) && is_named name r) rules

    or_none : (b : Bool) → b ≡ (b || false)
    or_none true = refl
    or_none false = refl

    the : (m : ℕ) → (m == n) ≡ true → n ≡ m
    the m h = grind arith

    by : (b : Bool) → (rule.number == n) ≡ b → is_found_so name (rule_numbered n rules) ≡ is_of_name name rules n
        → is_found_so name (cond b (Some rule) (rule_numbered n rules)) ≡ ((b && is_named name rule) || others)
    by true e later =
        or_none (is_named name rule)
        ∙ ap (λ b. is_named name rule || b) (sym (none_numbered name n rules (subst (λ m. AreAbove m rules) (sym (the rule.number e)) rising.0)))
    by false e later = later

none_so : (name : Sym) (rules : List RuleOf) (n : ℕ) → list_any (is_named name) rules ≡ false → is_of_name name rules n ≡ false
none_so name [] n none = refl
none_so name (rule ∷ rules) n none = by (is_named name rule) (rule.number == n) none (λ later. none_so name rules n later)
  where
    by : (a b : Bool) → (a || list_any (is_named name) rules) ≡ false → (list_any (is_named name) rules ≡ false → is_of_name name rules n ≡ false) → ((b && a) || is_of_name name rules n) ≡ false
    by true b e later = absurd (cc)
    by false true e later = later e
    by false false e later = later e

-- where no rule has the name all explanations stay
pub all_stay : (name : Sym) (rules : List RuleOf) (chains : List Learnt) → list_any (is_named name) rules ≡ false → unnamed_chains name rules chains ≡ chains
all_stay name rules [] none = refl
all_stay name rules (l ∷ chains) none =
    ap (λ b. cond (not b) (l ∷ unnamed_chains name rules chains) (unnamed_chains name rules chains)) (none_so name rules l.rule none)
    ∙ ap (λ (ls : List Learnt). l ∷ ls) (all_stay name rules chains none)
