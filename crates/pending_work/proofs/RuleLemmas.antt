-- Rules in rising order of number: each number has one rule, so an instance tells the rule that it is of.
use Rattle.std.proofs.Common.{◌≡◌, ℕ, ◌<◌, ◌==◌, true, false, cond, List, [], ◌∷◌, ◌++◌, map, flat_map, refl, ◌∙◌, ap, ap₂, arith}
use Rattle.std.proofs.lemmas.List.Concat.{flat_map-append}
use Rattle.soar_wm.specs.declared.element.Element.{Element}
use Rattle.defs_match.specs.Conflict.{conflict, instance_of, instances_of}
use Rattle.defs_match.specs.Rows.{Row}
use Rattle.defs_match.specs.Rules.{RuleOf}
use Rattle.defs_match.specs.declared.instance.Instance.{Instance}
use Rattle.defs_soar.specs.Pending.{firable_of, firables_of}
use Rattle.pending_work.specs.Firables.{AreNumbered, IsBelowRules, firables_for, rules_of}

-- the instances are of rules above this number
abbrev pub AreAbove : ℕ → List Instance → Type 0
AreAbove number [] = Unit {0}
AreAbove number (i ∷ instances) = (number < i.rule) × AreAbove number instances

above_append : (n : ℕ) (is js : List Instance) → AreAbove n is → AreAbove n js → AreAbove n (is ++ js)
above_append n [] js h k = k
above_append n (i ∷ is) js h k = (h.0, above_append n is js h.1 k)

above_rows : (n number : ℕ) (rs : List Row) → n < number → AreAbove n (map (instance_of number) rs)
above_rows n number [] h = tt
above_rows n number (r ∷ rs) h = (h, above_rows n number rs h)

pub above_conflict : (n : ℕ) (rules : List RuleOf) (elements : List Element) → IsBelowRules n rules → AreAbove n (conflict rules elements)
above_conflict n [] elements h = tt
above_conflict n (rule ∷ rules) elements h =
    above_append n (instances_of elements rule) (conflict rules elements)
    (above_rows n rule.number _ h.0) (above_conflict n rules elements h.1)

-- ---- the rules of a number

same : (n : ℕ) → (n == n) ≡ true
same n = grind arith

apart : (m n : ℕ) → m < n → (m == n) ≡ false
apart m n h = grind arith

apart_back : (m n : ℕ) → m < n → (n == m) ≡ false
apart_back m n h = grind arith

none_numbered : (n : ℕ) (rules : List RuleOf) → IsBelowRules n rules → rules_of rules n ≡ []
none_numbered n [] h = refl
none_numbered n (rule ∷ rules) h = ap (λ b. cond b (rule ∷ rules_of rules n) (rules_of rules n)) (apart_back n rule.number h.0) ∙ none_numbered n rules h.1

pub own_number : (rule : RuleOf) (rules : List RuleOf) → IsBelowRules rule.number rules → rules_of (rule ∷ rules) rule.number ≡ rule ∷ []
own_number rule rules h =
    ap (λ b. cond b (rule ∷ rules_of rules rule.number) (rules_of rules rule.number)) (same rule.number)
    ∙ ap (λ l. rule ∷ l) (none_numbered rule.number rules h)

pub later_number : (rule : RuleOf) (rules : List RuleOf) (n : ℕ) → rule.number < n → rules_of (rule ∷ rules) n ≡ rules_of rules n
later_number rule rules n h = ap (λ b. cond b (rule ∷ rules_of rules n) (rules_of rules n)) (apart rule.number n h)

-- ---- the firables of the conflict set

own_firables : (rule : RuleOf) (rules : List RuleOf) (elements : List Element) (rs : List Row) → IsBelowRules rule.number rules
    → flat_map (firables_for (rule ∷ rules) elements) (map (instance_of rule.number) rs) ≡ map (firable_of elements rule) (map (instance_of rule.number) rs)
own_firables rule rules elements [] h = refl
own_firables rule rules elements (r ∷ rs) h =
    ap₂ (λ a b. a ++ b)
    (ap (map (λ q. firable_of elements q (instance_of rule.number r))) (own_number rule rules h))
    (own_firables rule rules elements rs h)

later_firables : (rule : RuleOf) (rules : List RuleOf) (elements : List Element) (is : List Instance) → AreAbove rule.number is
    → flat_map (firables_for (rule ∷ rules) elements) is ≡ flat_map (firables_for rules elements) is
later_firables rule rules elements [] h = refl
later_firables rule rules elements (i ∷ is) h =
    ap₂ (λ a b. a ++ b)
    (ap (map (λ q. firable_of elements q i)) (later_number rule rules i.rule h.0))
    (later_firables rule rules elements is h.1)

pub firables_conflict : (rules : List RuleOf) (elements : List Element) → AreNumbered rules
    → flat_map (firables_for rules elements) (conflict rules elements) ≡ flat_map (firables_of elements) rules
firables_conflict [] elements h = refl
firables_conflict (rule ∷ rules) elements h =
    flat_map-append (firables_for (rule ∷ rules) elements) (instances_of elements rule) (conflict rules elements)
    ∙ ap₂ (λ a b. a ++ b)
    (own_firables rule rules elements _ h.0)
    (later_firables rule rules elements (conflict rules elements) (above_conflict rule.number rules elements h.0) ∙ firables_conflict rules elements h.1)
