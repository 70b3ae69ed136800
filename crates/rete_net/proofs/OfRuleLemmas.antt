-- The instances of the rule of a number, out of the conflict set.
use Rattle.std.proofs.Common.{◌≡◌, ◌⊎◌, inl, inr, refl, sym, ◌∙◌, ap, ap₂, subst, ℕ, Bool, true, false, cond, ◌==◌, ◌||◌, arith, List, [], ◌∷◌, ◌++◌, append-nil, map, filter, None, Some}
use Rattle.std.proofs.lemmas.List.Elements.{filter-append}
use Rattle.std.specs.BTreeMap.{is_at}
use Rattle.std.specs.List.{list_any}
use Rattle.std.specs.Map.{lookup, values_of}
use Rattle.std.specs.Ordering.{nat_cmp}
use Rattle.soar_wm.specs.declared.element.Element.{Element}
use Rattle.defs_match.specs.Conflict.{conflict, instance_of, instances_of}
use Rattle.defs_match.specs.Contents.{is_numbered}
use Rattle.defs_match.specs.Laws.{IsIn}
use Rattle.defs_match.specs.Rows.{Row, rows}
use Rattle.defs_match.specs.Rules.{RuleOf}
use Rattle.defs_match.specs.declared.instance.Instance.{Instance}
use Rattle.match_changes.specs.Told.{is_of, of_rule}
use Rattle.node_memory.proofs.ChangeLemmas.{in_map_back}
use Rattle.rete_net.specs.declared.chain.Chain.{Chain}
use Rattle.rete_net.specs.Chains.{AreApart, AreNumbered, Entries, rule_of}
use Rattle.rete_net.proofs.EndLemmas.{found_chain}
use Rattle.rete_net.proofs.ToldLemmas.{none_under}

-- rows of the rule of this number, and of another
all_kept : (number m : ℕ) (rs : List Row) → (m == number) ≡ true → of_rule number (map (instance_of m) rs) ≡ map (instance_of m) rs
all_kept number m [] is = refl
all_kept number m (r ∷ rs) is = by (m == number) is (all_kept number m rs is)
  where
    by : (b : Bool) → b ≡ true → of_rule number (map (instance_of m) rs) ≡ map (instance_of m) rs
        → cond b (instance_of m r ∷ of_rule number (map (instance_of m) rs)) (of_rule number (map (instance_of m) rs)) ≡ instance_of m r ∷ map (instance_of m) rs
    by true is later = ap (λ (l : List Instance). instance_of m r ∷ l) later
    by false is later = absurd (cc)

all_left : (number m : ℕ) (rs : List Row) → (m == number) ≡ false → of_rule number (map (instance_of m) rs) ≡ []
all_left number m [] is = refl
all_left number m (r ∷ rs) is = by (m == number) is (all_left number m rs is)
  where
    by : (b : Bool) → b ≡ false → of_rule number (map (instance_of m) rs) ≡ []
        → cond b (instance_of m r ∷ of_rule number (map (instance_of m) rs)) (of_rule number (map (instance_of m) rs)) ≡ []
    by true is later = absurd (cc)
    by false is later = later

none_of : (number : ℕ) (w : List Element) (rules : List RuleOf) → list_any (is_numbered number) rules ≡ false → of_rule number (conflict rules w) ≡ []
none_of number w [] none = refl
none_of number w (q ∷ rules) none =
    filter-append (is_of number) (instances_of w q) (conflict rules w)
    ∙ ap₂ (λ (a b : List Instance). a ++ b) (all_left number q.number (rows q.production.conditions w) (first (q.number == number) (list_any (is_numbered number) rules) none)) (none_of number w rules (second (q.number == number) (list_any (is_numbered number) rules) none))
  where
    first : (a b : Bool) → (a || b) ≡ false → a ≡ false
    first true b h = absurd (cc)
    first false b h = refl

    second : (a b : Bool) → (a || b) ≡ false → b ≡ false
    second true b h = absurd (cc)
    second false b h = h

is_numbered_in : (number : ℕ) (r : RuleOf) (rules : List RuleOf) → IsIn r rules → (r.number == number) ≡ true → list_any (is_numbered number) rules ≡ true
is_numbered_in number r [] there is = absurd there
is_numbered_in number r (q ∷ rules) (inl same) is = ap (λ b. b || list_any (is_numbered number) rules) (ap (λ (p : RuleOf). p.number == number) same ∙ is)
is_numbered_in number r (q ∷ rules) (inr there) is = or_true (q.number == number) (list_any (is_numbered number) rules) (is_numbered_in number r rules there is)
  where
    or_true : (a b : Bool) → b ≡ true → (a || b) ≡ true
    or_true true b h = refl
    or_true false b h = h

same_number : (m n : ℕ) → m ≡ n → (m == n) ≡ true
same_number m n h = grind arith

other_number : (m n : ℕ) → (m == n) ≡ true → (n == m) ≡ true
other_number m n h = grind arith

-- the rule of the number stands there once
one_of : (number : ℕ) (w : List Element) (rules : List RuleOf) (r : RuleOf) → AreApart rules → IsIn r rules → r.number ≡ number → of_rule number (conflict rules w) ≡ instances_of w r
one_of number w [] r apart there is = absurd there
one_of number w (q ∷ rules) r apart (inl same) is =
    let here : (q.number == number) ≡ true = same_number q.number number (ap (λ (p : RuleOf). p.number) same ∙ is) in
    let none : list_any (is_numbered number) rules ≡ false = subst (λ n. list_any (is_numbered n) rules ≡ false) (ap (λ (p : RuleOf). p.number) same ∙ is) apart.0 in
    filter-append (is_of number) (instances_of w q) (conflict rules w)
    ∙ ap₂ (λ (a b : List Instance). a ++ b) (all_kept number q.number (rows q.production.conditions w) here) (none_of number w rules none)
    ∙ append-nil (instances_of w q)
    ∙ ap (instances_of w) same
one_of number w (q ∷ rules) r apart (inr there) is = by (q.number == number) refl (one_of number w rules r apart.1 there is)
  where
    equal : (m n : ℕ) → (m == n) ≡ true → n ≡ m
    equal m n h = grind arith

    both : (b : Bool) → b ≡ true → b ≡ false → ⊥
    both b h k = cc

    by : (b : Bool) → (q.number == number) ≡ b → of_rule number (conflict rules w) ≡ instances_of w r → of_rule number (conflict (q ∷ rules) w) ≡ instances_of w r
    by true here later = absurd (both (list_any (is_numbered q.number) rules) (is_numbered_in q.number r rules there (same_number r.number q.number (is ∙ equal q.number number here))) apart.0)
    by false here later =
        filter-append (is_of number) (instances_of w q) (conflict rules w)
        ∙ ap (λ (l : List Instance). l ++ of_rule number (conflict rules w)) (all_left number q.number (rows q.production.conditions w) here)
        ∙ later

empty : (l : List Instance) → ((i : Instance) → IsIn i l → ⊥) → l ≡ []
empty [] none = refl
empty (i ∷ l) none = absurd (none i (inl refl))

in_of_rule : (n : ℕ) (i : Instance) (l : List Instance) → IsIn i (of_rule n l) → IsIn i l × (i.rule ≡ n)
in_of_rule n i [] there = absurd there
in_of_rule n i (j ∷ l) there = by (j.rule == n) refl there (in_of_rule n i l)
  where
    equal : (a b : ℕ) → (a == b) ≡ true → a ≡ b
    equal a b h = grind arith

    by : (b : Bool) → (j.rule == n) ≡ b → IsIn i (cond b (j ∷ of_rule n l) (of_rule n l)) → (IsIn i (of_rule n l) → IsIn i l × (i.rule ≡ n)) → IsIn i (j ∷ l) × (i.rule ≡ n)
    by true is (inl same) later = (inl same, ap (λ (k : Instance). k.rule) (sym same) ∙ equal j.rule n is)
    by true is (inr h) later = (let x = later h in (inr x.0, x.1))
    by false is h later = (let x = later h in (inr x.0, x.1))

module _ (es : Entries) (w : List Element) (number : ℕ) (numbered : AreNumbered es) (apart : AreApart (map rule_of (values_of es))) where
  -- they are those of its chain
  pub of_chain : (c : Chain) → Some c ≡ lookup (is_at (nat_cmp number)) es → of_rule number (conflict (map rule_of (values_of es)) w) ≡ instances_of w (rule_of c)
  of_chain c at =
      let found = found_chain es number c numbered at in
      one_of number w (map rule_of (values_of es)) (rule_of c) apart (in_map_back rule_of c (values_of es) found.0) found.1

  -- without a chain there are none
  pub of_none : None ≡ lookup (is_at (nat_cmp number)) es → of_rule number (conflict (map rule_of (values_of es)) w) ≡ []
  of_none at =
      let all = conflict (map rule_of (values_of es)) w in
      empty (of_rule number all) (λ i there. (let x = in_of_rule number i all there in none_under es w number numbered apart at i x.0 x.1))
