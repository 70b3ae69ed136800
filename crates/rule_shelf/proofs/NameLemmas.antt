-- The first rule of a name, by the numbers under the name.
use Rattle.std.proofs.Common.{◌≡◌, refl, sym, ◌∙◌, ap, subst, ℕ, ◌-◌, ◌^◌, ◌<◌, ◌≤◌, ◌==◌, Bool, true, false, cond, List, [], ◌∷◌, Option, Some, None, is_some, option_map, ◌||◌, arith}
use Rattle.std.specs.BTreeSet.{IsKeyRangeOf}
use Rattle.std.specs.BTreeMap.Range.{IsInRange}
use Rattle.std.specs.Cmp.{IsTotalOrder}
use Rattle.std.specs.List.{list_any}
use Rattle.std.specs.Ordering.{is_eq, is_gt, nat_cmp, ordering_reverse, ordering_then}
use Rattle.std.specs.declared.cmp.Ordering.{Ordering}
use Rattle.std.specs.declared.cmp.Ordering.TheVariants.{Less, Equal, Greater}
use Rattle.std.specs.declared.ops.Bound.TheVariants.{Included}
use Rattle.std.proofs.lemmas.Option.{same_Some}
use Rattle.soar_sym.specs.contracts.symbol.SymOrd.TheImpl.Laws as laws
use Rattle.soar_sym.specs.declared.symbol.Sym.{Sym}
use Rattle.soar_wm.proofs.KeyLemmas.{sym_cmp, cmp_same, symbol_is, sym_tied}
use Rattle.defs_match.specs.Contents.{rule_numbered}
use Rattle.defs_match.specs.Rules.{RuleOf}
use Rattle.defs_run.specs.Carrying.{is_named, rule_named}
use Rattle.rule_shelf.specs.declared.index.Index.{Index}
use Rattle.rule_shelf.specs.Marks.{first_number, has, is_of, place_cmp, IsIndexed}
use Rattle.rule_shelf.specs.Shelf.{AreAbove, AreBelow, IsRising}

-- ---- rules by number, and the first of a name

above_found : (name : Sym) (k n : ℕ) (rules : List RuleOf) → AreAbove k rules → is_of name (rule_numbered n rules) ≡ true → k < n
above_found name k n [] above there = absurd (cc)
above_found name k n (e ∷ rules) above there = by (e.number == n) refl there (above_found name k n rules above.1)
  where
    above_is : (m : ℕ) → (m == n) ≡ true → k < m → k < n
    above_is m h less = grind arith

    by : (b : Bool) → (e.number == n) ≡ b → is_of name (cond b (Some e) (rule_numbered n rules)) ≡ true → (is_of name (rule_numbered n rules) ≡ true → k < n) → k < n
    by true h at later = above_is e.number h above.0
    by false h at later = later at

none_above : (name : Sym) (k n : ℕ) (rules : List RuleOf) → AreAbove k rules → (k == n) ≡ true → is_of name (rule_numbered n rules) ≡ false
none_above name k n rules above h = by (is_of name (rule_numbered n rules)) refl
  where
    never : (m : ℕ) → (m == n) ≡ true → m < n → ⊥
    never m e less = grind arith

    by : (b : Bool) → is_of name (rule_numbered n rules) ≡ b → b ≡ false
    by true at = absurd (never k h (above_found name k n rules above at))
    by false at = refl

itself : (n : ℕ) → (n == n) ≡ true
itself n = grind arith

own : (name : Sym) (e : RuleOf) (rules : List RuleOf) → is_of name (rule_numbered e.number (e ∷ rules)) ≡ is_named name e
own name e rules = ap (λ b. is_of name (cond b (Some e) (rule_numbered e.number rules))) (itself e.number)

none_named : (name : Sym) (bound : ℕ) (rules : List RuleOf) → IsRising rules → AreBelow bound rules → ((n : ℕ) → n < bound → is_of name (rule_numbered n rules) ≡ false) → rule_named rules name ≡ None
none_named name bound [] rising below none = refl
none_named name bound (e ∷ rules) rising below none =
    ap (λ b. cond b (Some e) (rule_named rules name)) (sym (own name e rules) ∙ none e.number below.0) ∙ none_named name bound rules rising.1 below.1 (λ n less. by n less (e.number == n) refl)
  where
    by : (n : ℕ) → n < bound → (b : Bool) → (e.number == n) ≡ b → is_of name (rule_numbered n rules) ≡ false
    by n less true h = none_above name e.number n rules rising.0 h
    by n less false h = sym (ap (λ b. is_of name (cond b (Some e) (rule_numbered n rules))) h) ∙ none n less

first_named : (name : Sym) (bound n : ℕ) (rules : List RuleOf) → IsRising rules → AreBelow bound rules → is_of name (rule_numbered n rules) ≡ true
    → ((m : ℕ) → m < bound → is_of name (rule_numbered m rules) ≡ true → n ≤ m) → Some n ≡ option_map (λ (rule : RuleOf). rule.number) (rule_named rules name)
first_named name bound n [] rising below there least = absurd (cc)
first_named name bound n (e ∷ rules) rising below there least = by (is_named name e) refl (λ at above. first_named name bound n rules rising.1 below.1 at above)
  where
    apart : (m : ℕ) → e.number < m → (e.number == m) ≡ false
    apart m less = grind arith

    one : (k : ℕ) → (k == n) ≡ true → k ≡ n
    one k h = grind arith

    later : (b : Bool) → (e.number == n) ≡ b → is_of name (cond b (Some e) (rule_numbered n rules)) ≡ true → is_named name e ≡ true → n ≡ e.number
    later true h at is = sym (one e.number h)
    later false h at is = absurd (omega (arith, above_found name e.number n rules rising.0 at, least e.number below.0 (own name e rules ∙ is)))

    behind : (b : Bool) → is_of name (cond b (Some e) (rule_numbered n rules)) ≡ true → is_named name e ≡ false → is_of name (rule_numbered n rules) ≡ true
    behind true at not = (let bad : false ≡ true = sym not ∙ at in absurd (cc))
    behind false at not = at

    still : (m : ℕ) → m < bound → is_of name (rule_numbered m rules) ≡ true → n ≤ m
    still m less at = least m less (ap (λ b. is_of name (cond b (Some e) (rule_numbered m rules))) (apart m (above_found name e.number m rules rising.0 at)) ∙ at)

    by : (b : Bool) → is_named name e ≡ b
        → (is_of name (rule_numbered n rules) ≡ true → ((m : ℕ) → m < bound → is_of name (rule_numbered m rules) ≡ true → n ≤ m)
        → Some n ≡ option_map (λ (rule : RuleOf). rule.number) (rule_named rules name))
        → Some n ≡ option_map (λ (rule : RuleOf). rule.number) (cond b (Some e) (rule_named rules name))
    by true is rest = ap Some (later (e.number == n) refl there is)
    by false is rest = rest (behind (e.number == n) there is) still

-- ---- what its number tells

above_named : (name : Sym) (k n : ℕ) (rules : List RuleOf) → AreAbove k rules → Some n ≡ option_map (λ (rule : RuleOf). rule.number) (rule_named rules name) → k < n
above_named name k n [] above is = absurd (cc)
above_named name k n (e ∷ rules) above is = by (is_named name e) is (above_named name k n rules above.1)
  where
    by : (b : Bool) → Some n ≡ option_map (λ (rule : RuleOf). rule.number) (cond b (Some e) (rule_named rules name))
        → (Some n ≡ option_map (λ (rule : RuleOf). rule.number) (rule_named rules name) → k < n) → k < n
    by true at later = subst (λ m. k < m) (sym (same_Some n e.number at)) above.0
    by false at later = later at

pub named_by_number : (name : Sym) (n : ℕ) (rules : List RuleOf) → IsRising rules → Some n ≡ option_map (λ (rule : RuleOf). rule.number) (rule_named rules name) → rule_numbered n rules ≡ rule_named rules name
named_by_number name n [] rising is = refl
named_by_number name n (e ∷ rules) rising is = by (is_named name e) is (named_by_number name n rules rising.1)
  where
    apart : (m k : ℕ) → m < k → (m == k) ≡ false
    apart m k less = grind arith

    by : (b : Bool) → Some n ≡ option_map (λ (rule : RuleOf). rule.number) (cond b (Some e) (rule_named rules name))
        → (Some n ≡ option_map (λ (rule : RuleOf). rule.number) (rule_named rules name) → rule_numbered n rules ≡ rule_named rules name)
        → cond (e.number == n) (Some e) (rule_numbered n rules) ≡ cond b (Some e) (rule_named rules name)
    by true at later = ap (λ m. cond (e.number == m) (Some e) (rule_numbered n rules)) (same_Some n e.number at) ∙ ap (λ b. cond b (Some e) (rule_numbered n rules)) (itself e.number)
    by false at later = ap (λ b. cond b (Some e) (rule_numbered n rules)) (apart e.number n (above_named name e.number n rules rising.0 at)) ∙ later at

pub has_named : (name : Sym) (rules : List RuleOf) (o : Option ℕ) → o ≡ option_map (λ (rule : RuleOf). rule.number) (rule_named rules name) → is_some o ≡ list_any (is_named name) rules
has_named name rules o is = ap is_some is ∙ all rules
  where
    all : (rules : List RuleOf) → is_some (option_map (λ (rule : RuleOf). rule.number) (rule_named rules name)) ≡ list_any (is_named name) rules
    all [] = refl
    all (e ∷ rules) = by (is_named name e) (all rules)
      where
        by : (b : Bool) → is_some (option_map (λ (rule : RuleOf). rule.number) (rule_named rules name)) ≡ list_any (is_named name) rules
            → is_some (option_map (λ (rule : RuleOf). rule.number) (cond b (Some e) (rule_named rules name))) ≡ (b || list_any (is_named name) rules)
        by true h = refl
        by false h = h

-- ---- the numbers under a name

sym_total : IsTotalOrder sym_cmp
sym_total = laws.total-law

abbrev Under : Sym → Sym × ℕ → Type 0
Under name q = IsInRange place_cmp (Included (name, 0)) (Included (name, 2 ^ 64 - 1)) q

-- what stands between the ends of a name is of the name
of_it : (name : Sym) (q : Sym × ℕ) → Under name q → q.0 ≡ name
of_it name q under = symbol_is q.0 name (sym (cmp_same q.0 name) ∙ ap is_eq (by (sym_cmp q.0 name) refl))
  where
    low : (o : Ordering) → sym_cmp q.0 name ≡ o → is_gt (ordering_then (ordering_reverse o) (nat_cmp 0 q.1)) ≡ false
    low o is = ap (λ x. is_gt (ordering_then x (nat_cmp 0 q.1))) (sym (sym_total.antisymm name q.0 ∙ ap ordering_reverse is)) ∙ under.0

    high : (o : Ordering) → sym_cmp q.0 name ≡ o → is_gt (ordering_then o (nat_cmp q.1 (2 ^ 64 - 1))) ≡ false
    high o is = ap (λ x. is_gt (ordering_then x (nat_cmp q.1 (2 ^ 64 - 1)))) (sym is) ∙ under.1

    by : (o : Ordering) → sym_cmp q.0 name ≡ o → sym_cmp q.0 name ≡ Equal
    by Less is = (let bad : true ≡ false = low Less is in absurd (cc))
    by Equal is = is
    by Greater is = (let bad : true ≡ false = high Greater is in absurd (cc))

is_under : (name : Sym) (n : ℕ) → n < 2 ^ 64 → Under name (name, n)
is_under name n small =
    (ap (λ o. is_gt (ordering_then o (nat_cmp 0 n))) (sym_tied name) ∙ from n, ap (λ o. is_gt (ordering_then o (nat_cmp n (2 ^ 64 - 1)))) (sym_tied name) ∙ upto n (2 ^ 64 - 1) (omega (arith, small)))
  where
    from : (n : ℕ) → is_gt (nat_cmp 0 n) ≡ false
    from n = grind arith

    upto : (m n : ℕ) → m ≤ n → is_gt (nat_cmp m n) ≡ false
    upto m n h = grind arith

pub first_found : (name : Sym) (rules : List RuleOf) (index : Index) (r : List (Sym × ℕ)) → IsIndexed rules index → IsKeyRangeOf place_cmp (Included (name, 0)) (Included (name, 2 ^ 64 - 1)) index.names r
    → first_number r ≡ option_map (λ (rule : RuleOf). rule.number) (rule_named rules name)
first_found name rules index [] indexed range =
    ap (option_map (λ (rule : RuleOf). rule.number))
    (sym (none_named name (2 ^ 64) rules indexed.rising indexed.small (λ n small. sym (indexed.named (name, n)) ∙ range.5 refl (name, n) (is_under name n small))))
first_found name rules index (q ∷ r) indexed range =
    first_named name (2 ^ 64) q.1 rules indexed.rising indexed.small (sym (indexed.named (name, q.1)) ∙ ap (λ s. has index.names.keys (s, q.1)) (sym here) ∙ range.1.1) least
  where
    here : q.0 ≡ name
    here = of_it name q range.1.0

    upto : (m n : ℕ) → is_gt (nat_cmp m n) ≡ false → m ≤ n
    upto m n h = grind arith

    least : (m : ℕ) → m < 2 ^ 64 → is_of name (rule_numbered m rules) ≡ true → q.1 ≤ m
    least m small at =
        upto q.1 m
        (sym (ap (λ o. is_gt (ordering_then o (nat_cmp q.1 m))) (ap (λ s. sym_cmp s name) here ∙ sym_tied name)) ∙ range.2 (name, m) (is_under name m small) (indexed.named (name, m) ∙ at))
