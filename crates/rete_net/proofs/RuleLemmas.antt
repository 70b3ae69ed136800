-- Chains by number.
use Rattle.std.proofs.Common.{◌≡◌, refl, sym, ◌∙◌, ap, ap₂, Bool, true, false, cond, not, ◌||◌, ◌==◌, nat_lt, ℕ, suc, ◌<◌, length, List, [], ◌∷◌, map, filter, insert, remove, get_or, Some, arith}
use Rattle.std.specs.BTreeMap.{insert_entry, is_at}
use Rattle.std.specs.List.{list_any}
use Rattle.std.specs.Map.{lookup, remove_entry, values_of}
use Rattle.std.specs.Ordering.{is_eq, match_ordering, nat_cmp}
use Rattle.std.specs.declared.cmp.Ordering.{Ordering}
use Rattle.std.specs.declared.cmp.Ordering.TheVariants.{Less, Equal, Greater}
use Rattle.std.proofs.lemmas.Bool.{eqb-false}
use Rattle.std.proofs.lemmas.Option.{same_Some}
use Rattle.defs_match.specs.Contents.{is_numbered, with_rule, without_rule}
use Rattle.defs_match.specs.Rules.{RuleOf}
use Rattle.rete_net.specs.declared.chain.Chain.{Chain}
use Rattle.rete_net.specs.Chains.{AreApart, AreNumbered, Entries, rule_of}

-- the rules of chains
abbrev pub rules_in : Entries → List RuleOf
rules_in es = map rule_of (values_of es)

-- with a chain under the number of its rule, and without that of a number
abbrev pub with_chain : Entries → Chain → Entries
with_chain es c = insert_entry nat_cmp es c.rule.number c

abbrev pub without_chain : Entries → ℕ → Entries
without_chain es number = remove_entry (is_at (nat_cmp number)) es

less_is : (m n : ℕ) → nat_cmp m n ≡ Less → nat_lt m n ≡ true
less_is m n h = grind arith

equal_is : (m n : ℕ) → nat_cmp m n ≡ Equal → m ≡ n
equal_is m n h = grind arith

greater_is : (m n : ℕ) → nat_cmp m n ≡ Greater → nat_lt m n ≡ false
greater_is m n h = grind arith

same_is : (m n : ℕ) → is_eq (nat_cmp m n) ≡ true → m ≡ n
same_is m n h = grind arith

tested : (m n : ℕ) → is_eq (nat_cmp m n) ≡ (n == m)
tested m n = grind arith

-- ---- what holds of rules of which no two have one number

swapped : (m n : ℕ) → (m == n) ≡ (n == m)
swapped m n = grind arith

any_with : (number : ℕ) (rs : List RuleOf) (r : RuleOf) → list_any (is_numbered number) (with_rule rs r) ≡ (is_numbered number r || list_any (is_numbered number) rs)
any_with number [] r = refl
any_with number (q ∷ rs) r = by (nat_lt r.number q.number) (any_with number rs r)
  where
    turn : (a b c : Bool) → (a || (b || c)) ≡ (b || (a || c))
    turn true true c = refl
    turn true false c = refl
    turn false b c = refl

    by : (b : Bool) → list_any (is_numbered number) (with_rule rs r) ≡ (is_numbered number r || list_any (is_numbered number) rs)
        → list_any (is_numbered number) (cond b (r ∷ q ∷ rs) (q ∷ with_rule rs r)) ≡ (is_numbered number r || (is_numbered number q || list_any (is_numbered number) rs))
    by true later = refl
    by false later = ap (λ e. is_numbered number q || e) later ∙ turn (is_numbered number q) (is_numbered number r) (list_any (is_numbered number) rs)

pub first_false : (a b : Bool) → (a || b) ≡ false → (a ≡ false) × (b ≡ false)
first_false true b e = absurd (cc)
first_false false b e = (refl, e)

pub apart_with : (rs : List RuleOf) (r : RuleOf) → AreApart rs → list_any (is_numbered r.number) rs ≡ false → AreApart (with_rule rs r)
apart_with [] r apart new = (refl, tt)
apart_with (q ∷ rs) r apart new = by (nat_lt r.number q.number) (apart_with rs r apart.1 (first_false (is_numbered r.number q) (list_any (is_numbered r.number) rs) new).1)
  where
    other : list_any (is_numbered q.number) (with_rule rs r) ≡ false
    other = any_with q.number rs r ∙ ap₂ ◌||◌ (swapped r.number q.number ∙ (first_false (is_numbered r.number q) (list_any (is_numbered r.number) rs) new).0) apart.0

    by : (b : Bool) → AreApart (with_rule rs r) → AreApart (cond b (r ∷ q ∷ rs) (q ∷ with_rule rs r))
    by true later = (new, apart)
    by false later = (other, later)

still_none : (p q : RuleOf → Bool) (rs : List RuleOf) → list_any p rs ≡ false → list_any p (filter q rs) ≡ false
still_none p q [] e = refl
still_none p q (r ∷ rs) e = by (q r) (still_none p q rs (first_false (p r) (list_any p rs) e).1)
  where
    by : (b : Bool) → list_any p (filter q rs) ≡ false → list_any p (cond b (r ∷ filter q rs) (filter q rs)) ≡ false
    by true later = ap₂ ◌||◌ (first_false (p r) (list_any p rs) e).0 later
    by false later = later

pub apart_without : (rs : List RuleOf) (number : ℕ) → AreApart rs → AreApart (without_rule rs number)
apart_without [] number apart = tt
apart_without (r ∷ rs) number apart = by (not (is_numbered number r)) (apart_without rs number apart.1)
  where
    by : (b : Bool) → AreApart (without_rule rs number) → AreApart (cond b (r ∷ without_rule rs number) (without_rule rs number))
    by true later = (still_none (is_numbered r.number) (λ q. not (is_numbered number q)) rs apart.0, later)
    by false later = later

none_goes : (rs : List RuleOf) (number : ℕ) → list_any (is_numbered number) rs ≡ false → rs ≡ without_rule rs number
none_goes [] number e = refl
none_goes (r ∷ rs) number e =
    let parts = first_false (is_numbered number r) (list_any (is_numbered number) rs) e in
    ap (λ (l : List RuleOf). r ∷ l) (none_goes rs number parts.1) ∙ sym (ap (λ b. cond (not b) (r ∷ without_rule rs number) (without_rule rs number)) parts.0)

-- ---- a chain comes

-- under none of the numbers that are there
others : (e : ℕ × Chain) (es : Entries) (c : Chain) → e.1.rule.number ≡ e.0 → list_any (is_numbered c.rule.number) (rules_in (e ∷ es)) ≡ false → nat_cmp c.rule.number e.0 ≡ Equal → ⊥
others e es c own new same =
    eqb-false e.1.rule.number c.rule.number (first_false (is_numbered c.rule.number (rule_of e.1)) (list_any (is_numbered c.rule.number) (rules_in es)) new).0
    (own ∙ sym (equal_is c.rule.number e.0 same))

later_new : (e : ℕ × Chain) (es : Entries) (c : Chain) → list_any (is_numbered c.rule.number) (rules_in (e ∷ es)) ≡ false → list_any (is_numbered c.rule.number) (rules_in es) ≡ false
later_new e es c new = (first_false (is_numbered c.rule.number (rule_of e.1)) (list_any (is_numbered c.rule.number) (rules_in es)) new).1

pub numbered_with : (es : Entries) (c : Chain) → AreNumbered es → AreNumbered (with_chain es c)
numbered_with [] c numbered = (refl, tt)
numbered_with (e ∷ es) c numbered = by (nat_cmp c.rule.number e.0) refl (numbered_with es c numbered.1)
  where
    by : (o : Ordering) → nat_cmp c.rule.number e.0 ≡ o → AreNumbered (with_chain es c) → AreNumbered (match_ordering o ((c.rule.number, c) ∷ e ∷ es) ((e.0, c) ∷ es) (e ∷ with_chain es c))
    by Less is later = (refl, numbered)
    by Equal is later = (equal_is c.rule.number e.0 is, numbered.1)
    by Greater is later = (numbered.0, later)

-- it stands somewhere among the others
pub place_with : (es : Entries) (c : Chain) → AreNumbered es → list_any (is_numbered c.rule.number) (rules_in es) ≡ false → (i : ℕ) × (values_of (with_chain es c) ≡ insert (values_of es) i c)
place_with [] c numbered new = (0, refl)
place_with (e ∷ es) c numbered new = by (nat_cmp c.rule.number e.0) refl (place_with es c numbered.1 (later_new e es c new))
  where
    by : (o : Ordering) → nat_cmp c.rule.number e.0 ≡ o → (i : ℕ) × (values_of (with_chain es c) ≡ insert (values_of es) i c)
        → (i : ℕ) × (values_of (match_ordering o ((c.rule.number, c) ∷ e ∷ es) ((e.0, c) ∷ es) (e ∷ with_chain es c)) ≡ insert (e.1 ∷ values_of es) i c)
    by Less is later = (0, refl)
    by Equal is later = absurd (others e es c numbered.0 new is)
    by Greater is later = (suc later.0, ap (λ (l : List Chain). e.1 ∷ l) later.1)

pub rules_with : (es : Entries) (c : Chain) → AreNumbered es → list_any (is_numbered c.rule.number) (rules_in es) ≡ false → rules_in (with_chain es c) ≡ with_rule (rules_in es) (rule_of c)
rules_with [] c numbered new = refl
rules_with (e ∷ es) c numbered new = by (nat_cmp c.rule.number e.0) refl (rules_with es c numbered.1 (later_new e es c new))
  where
    told : Bool → List RuleOf
    told b = cond b (rule_of c ∷ rule_of e.1 ∷ rules_in es) (rule_of e.1 ∷ with_rule (rules_in es) (rule_of c))

    test : (b : Bool) → nat_lt c.rule.number e.0 ≡ b → told b ≡ told (nat_lt c.rule.number e.1.rule.number)
    test b is = ap told (sym is ∙ ap (nat_lt c.rule.number) (sym numbered.0))

    by : (o : Ordering) → nat_cmp c.rule.number e.0 ≡ o → rules_in (with_chain es c) ≡ with_rule (rules_in es) (rule_of c)
        → rules_in (match_ordering o ((c.rule.number, c) ∷ e ∷ es) ((e.0, c) ∷ es) (e ∷ with_chain es c)) ≡ told (nat_lt c.rule.number e.1.rule.number)
    by Less is later = test true (less_is c.rule.number e.0 is)
    by Equal is later = absurd (others e es c numbered.0 new is)
    by Greater is later = ap (λ (l : List RuleOf). rule_of e.1 ∷ l) later ∙ test false (greater_is c.rule.number e.0 is)

-- ---- a chain goes

pub numbered_without : (es : Entries) (number : ℕ) → AreNumbered es → AreNumbered (without_chain es number)
numbered_without [] number numbered = tt
numbered_without (e ∷ es) number numbered = by (is_eq (nat_cmp number e.0)) (numbered_without es number numbered.1)
  where
    by : (b : Bool) → AreNumbered (without_chain es number) → AreNumbered (cond b es (e ∷ without_chain es number))
    by true later = numbered.1
    by false later = (numbered.0, later)

-- the chain of the number stood somewhere among the others
pub place_without : (es : Entries) (number : ℕ) (c : Chain) → Some c ≡ lookup (is_at (nat_cmp number)) es
    → (i : ℕ) × (i < length (values_of es)) × (c ≡ get_or (values_of es) i c) × (values_of (without_chain es number) ≡ remove (values_of es) i)
place_without [] number c there = absurd (cc)
place_without (e ∷ es) number c there = by (is_eq (nat_cmp number e.0)) there (place_without es number c)
  where
    by : (b : Bool) → Some c ≡ cond b (Some e.1) (lookup (is_at (nat_cmp number)) es)
        → (Some c ≡ lookup (is_at (nat_cmp number)) es → (i : ℕ) × (i < length (values_of es)) × (c ≡ get_or (values_of es) i c) × (values_of (without_chain es number) ≡ remove (values_of es) i))
        → (i : ℕ) × (i < length (values_of (e ∷ es))) × (c ≡ get_or (values_of (e ∷ es)) i c) × (values_of (cond b es (e ∷ without_chain es number)) ≡ remove (values_of (e ∷ es)) i)
    by true is later = (0, omega arith, same_Some c e.1 is, refl)
    by false is later = let found = later is in (suc found.0, omega (arith, found.1), found.2, ap (λ (l : List Chain). e.1 ∷ l) found.3)

pub rules_without : (es : Entries) (number : ℕ) → AreNumbered es → AreApart (rules_in es) → rules_in (without_chain es number) ≡ without_rule (rules_in es) number
rules_without [] number numbered apart = refl
rules_without (e ∷ es) number numbered apart =
    by (is_eq (nat_cmp number e.0)) refl (rules_without es number numbered.1 apart.1)
    ∙ ap (λ b. cond (not b) (rule_of e.1 ∷ without_rule (rules_in es) number) (without_rule (rules_in es) number)) (tested number e.0 ∙ ap (λ n. n == number) (sym numbered.0))
  where
    by : (b : Bool) → is_eq (nat_cmp number e.0) ≡ b → rules_in (without_chain es number) ≡ without_rule (rules_in es) number
        → rules_in (cond b es (e ∷ without_chain es number)) ≡ cond (not b) (rule_of e.1 ∷ without_rule (rules_in es) number) (without_rule (rules_in es) number)
    by true is later = none_goes (rules_in es) number (ap (λ n. list_any (is_numbered n) (rules_in es)) (same_is number e.0 is ∙ sym numbered.0) ∙ apart.0)
    by false is later = ap (λ (l : List RuleOf). rule_of e.1 ∷ l) later
