-- Rules in order of number, as one comes or goes.
use Rattle.std.proofs.Common.{◌≡◌, refl, sym, ◌∙◌, ap, ℕ, ◌<◌, ◌==◌, Bool, true, false, not, cond, List, [], ◌∷◌, ◌++◌, map, filter, Option, Some, None, arith}
use Rattle.std.specs.BTreeMap.{is_at}
use Rattle.std.specs.BTreeSet.{insert_key}
use Rattle.std.specs.Ordering.{is_eq, nat_cmp}
use Rattle.std.specs.Set.{remove_key}
use Rattle.defs_match.specs.Contents.{is_numbered, rule_numbered, without_rule}
use Rattle.defs_match.specs.Rules.{RuleOf}
use Rattle.rule_shelf.specs.Shelf.{AreAbove, AreBelow, IsRising, is_justified, justification_numbers}
use Rattle.rule_shelf.proofs.KeyLemmas.{KeysBelow, insert_last, remove_below, remove_last}

-- ---- what is below and above

unlike_below : (m n : ℕ) → m < n → (m == n) ≡ false
unlike_below m n h = grind arith

pub none_numbered : (n : ℕ) (rules : List RuleOf) → AreBelow n rules → rule_numbered n rules ≡ None
none_numbered n [] below = refl
none_numbered n (r ∷ rules) below = ap (λ b. cond b (Some r) (rule_numbered n rules)) (unlike_below r.number n below.0) ∙ none_numbered n rules below.1

unlike_above : (m n : ℕ) → n < m → (m == n) ≡ false
unlike_above m n h = grind arith

pub above_stay : (n : ℕ) (rules : List RuleOf) → AreAbove n rules → without_rule rules n ≡ rules
above_stay n [] above = refl
above_stay n (r ∷ rules) above =
    ap (λ b. cond (not b) (r ∷ without_rule rules n) (without_rule rules n)) (unlike_above r.number n above.0) ∙ ap (λ (l : List RuleOf). r ∷ l) (above_stay n rules above.1)

keys_below : (n : ℕ) (rules : List RuleOf) → AreBelow n rules → KeysBelow n (justification_numbers rules)
keys_below n [] below = tt
keys_below n (r ∷ rules) below = by (is_justified r) (keys_below n rules below.1)
  where
    by : (b : Bool) → KeysBelow n (justification_numbers rules) → KeysBelow n (map (λ (q : RuleOf). q.number) (cond b (r ∷ filter is_justified rules) (filter is_justified rules)))
    by true later = (below.0, later)
    by false later = later

-- ---- a rule comes behind all others

pub below_pushed : (n : ℕ) (rules : List RuleOf) (r : RuleOf) → AreBelow n rules → r.number < n → AreBelow n (rules ++ r ∷ [])
below_pushed n [] r below less = (less, tt)
below_pushed n (e ∷ rules) r below less = (below.0, below_pushed n rules r below.1 less)

above_pushed : (n : ℕ) (rules : List RuleOf) (r : RuleOf) → AreAbove n rules → n < r.number → AreAbove n (rules ++ r ∷ [])
above_pushed n [] r above less = (less, tt)
above_pushed n (e ∷ rules) r above less = (above.0, above_pushed n rules r above.1 less)

pub rising_pushed : (rules : List RuleOf) (r : RuleOf) → IsRising rules → AreBelow r.number rules → IsRising (rules ++ r ∷ [])
rising_pushed [] r rising below = (tt, tt)
rising_pushed (e ∷ rules) r rising below = (above_pushed e.number rules r rising.0 below.0, rising_pushed rules r rising.1 below.1)

pub numbered_pushed : (n : ℕ) (rules : List RuleOf) (r : RuleOf) → AreBelow r.number rules → rule_numbered n (rules ++ r ∷ []) ≡ cond (r.number == n) (Some r) (rule_numbered n rules)
numbered_pushed n [] r below = refl
numbered_pushed n (e ∷ rules) r below = by (e.number == n) refl (numbered_pushed n rules r below.1)
  where
    other : (m k : ℕ) → (m == n) ≡ true → m < k → (k == n) ≡ false
    other m k h less = grind arith

    by : (b : Bool) → (e.number == n) ≡ b → rule_numbered n (rules ++ r ∷ []) ≡ cond (r.number == n) (Some r) (rule_numbered n rules)
        → cond b (Some e) (rule_numbered n (rules ++ r ∷ [])) ≡ cond (r.number == n) (Some r) (cond b (Some e) (rule_numbered n rules))
    by true is later = sym (ap (λ b. cond b (Some r) (Some e)) (other e.number r.number is below.0))
    by false is later = later

justified_behind : (rules : List RuleOf) (r : RuleOf) → justification_numbers (rules ++ r ∷ []) ≡ cond (is_justified r) (justification_numbers rules ++ r.number ∷ []) (justification_numbers rules)
justified_behind [] r = by (is_justified r)
  where
    by : (b : Bool) → map (λ (q : RuleOf). q.number) (cond b (r ∷ []) []) ≡ cond b (r.number ∷ []) []
    by true = refl
    by false = refl
justified_behind (e ∷ rules) r = by (is_justified e) (justified_behind rules r)
  where
    front : (b : Bool) → e.number ∷ cond b (justification_numbers rules ++ r.number ∷ []) (justification_numbers rules) ≡ cond b (e.number ∷ justification_numbers rules ++ r.number ∷ []) (e.number ∷ justification_numbers rules)
    front true = refl
    front false = refl

    told : Bool → List ℕ
    told b = map (λ (q : RuleOf). q.number) (cond b (e ∷ filter is_justified rules) (filter is_justified rules))

    by : (b : Bool) → justification_numbers (rules ++ r ∷ []) ≡ cond (is_justified r) (justification_numbers rules ++ r.number ∷ []) (justification_numbers rules)
        → map (λ (q : RuleOf). q.number) (cond b (e ∷ filter is_justified (rules ++ r ∷ [])) (filter is_justified (rules ++ r ∷ []))) ≡ cond (is_justified r) (told b ++ r.number ∷ []) (told b)
    by true later = ap (λ (l : List ℕ). e.number ∷ l) later ∙ front (is_justified r)
    by false later = later

pub justified_pushed : (rules : List RuleOf) (r : RuleOf) → AreBelow r.number rules
    → cond (is_justified r) (insert_key nat_cmp (justification_numbers rules) r.number) (justification_numbers rules) ≡ justification_numbers (rules ++ r ∷ [])
justified_pushed rules r below =
    ap (λ ks. cond (is_justified r) ks (justification_numbers rules)) (insert_last r.number (justification_numbers rules) (keys_below r.number rules below)) ∙ sym (justified_behind rules r)

-- what was noted is forgotten again
pub justified_back : (rules : List RuleOf) (n : ℕ) (b : Bool) → AreBelow n rules
    → remove_key (is_at (nat_cmp n)) (cond b (insert_key nat_cmp (justification_numbers rules) n) (justification_numbers rules)) ≡ justification_numbers rules
justified_back rules n true below =
    let all = keys_below n rules below in ap (remove_key (is_at (nat_cmp n))) (insert_last n (justification_numbers rules) all) ∙ remove_last n (justification_numbers rules) all
justified_back rules n false below = remove_below n (justification_numbers rules) (keys_below n rules below)

-- ---- a rule goes

pub below_without : (m : ℕ) (rules : List RuleOf) (n : ℕ) → AreBelow m rules → AreBelow m (without_rule rules n)
below_without m [] n below = tt
below_without m (r ∷ rules) n below = by (not (is_numbered n r)) (below_without m rules n below.1)
  where
    by : (b : Bool) → AreBelow m (without_rule rules n) → AreBelow m (cond b (r ∷ without_rule rules n) (without_rule rules n))
    by true later = (below.0, later)
    by false later = later

above_without : (m : ℕ) (rules : List RuleOf) (n : ℕ) → AreAbove m rules → AreAbove m (without_rule rules n)
above_without m [] n above = tt
above_without m (r ∷ rules) n above = by (not (is_numbered n r)) (above_without m rules n above.1)
  where
    by : (b : Bool) → AreAbove m (without_rule rules n) → AreAbove m (cond b (r ∷ without_rule rules n) (without_rule rules n))
    by true later = (above.0, later)
    by false later = later

pub rising_without : (rules : List RuleOf) (n : ℕ) → IsRising rules → IsRising (without_rule rules n)
rising_without [] n rising = tt
rising_without (r ∷ rules) n rising = by (not (is_numbered n r)) (rising_without rules n rising.1)
  where
    by : (b : Bool) → IsRising (without_rule rules n) → IsRising (cond b (r ∷ without_rule rules n) (without_rule rules n))
    by true later = (above_without r.number rules n rising.0, later)
    by false later = later

pub numbered_without : (m : ℕ) (rules : List RuleOf) (n : ℕ) → rule_numbered m (without_rule rules n) ≡ cond (n == m) None (rule_numbered m rules)
numbered_without m [] n = by (n == m)
  where
    none : Option RuleOf
    none = None

    by : (b : Bool) → none ≡ cond b none none
    by true = refl
    by false = refl
numbered_without m (r ∷ rules) n = by (r.number == n) refl (numbered_without m rules n)
  where
    old : Bool → Option RuleOf
    old c = cond c (Some r) (rule_numbered m rules)

    same : (k : ℕ) → (k == n) ≡ true → (k == m) ≡ (n == m)
    same k h = grind arith

    other : (k : ℕ) → (k == n) ≡ false → (k == m) ≡ true → (n == m) ≡ false
    other k h e = grind arith

    gone : (d : Bool) → cond d None (rule_numbered m rules) ≡ cond d None (old d)
    gone true = refl
    gone false = refl

    here : (c : Bool) → (r.number == n) ≡ false → (r.number == m) ≡ c → rule_numbered m (without_rule rules n) ≡ cond (n == m) None (rule_numbered m rules)
        → cond c (Some r) (rule_numbered m (without_rule rules n)) ≡ cond (n == m) None (old c)
    here true is at later = sym (ap (λ d. cond d None (Some r)) (other r.number is at))
    here false is at later = later

    by : (b : Bool) → (r.number == n) ≡ b → rule_numbered m (without_rule rules n) ≡ cond (n == m) None (rule_numbered m rules)
        → rule_numbered m (cond (not b) (r ∷ without_rule rules n) (without_rule rules n)) ≡ cond (n == m) None (old (r.number == m))
    by true is later = later ∙ gone (n == m) ∙ ap (λ c. cond (n == m) None (old c)) (sym (same r.number is))
    by false is later = here (r.number == m) is refl later

pub justified_without : (rules : List RuleOf) (n : ℕ) → IsRising rules → remove_key (is_at (nat_cmp n)) (justification_numbers rules) ≡ justification_numbers (without_rule rules n)
justified_without [] n rising = refl
justified_without (r ∷ rules) n rising = by (r.number == n) refl (is_justified r) refl (justified_without rules n rising.1)
  where
    found : (m : ℕ) → (m == n) ≡ true → is_eq (nat_cmp n m) ≡ true
    found m h = grind arith

    missed : (m : ℕ) → (m == n) ≡ false → is_eq (nat_cmp n m) ≡ false
    missed m h = grind arith

    is : (m : ℕ) → (m == n) ≡ true → n ≡ m
    is m h = grind arith

    numbers : List RuleOf → List ℕ
    numbers l = map (λ (q : RuleOf). q.number) l

    rest : List ℕ
    rest = remove_key (is_at (nat_cmp n)) (justification_numbers rules)

    stays : (r.number == n) ≡ true → without_rule rules n ≡ rules
    stays h = ap (without_rule rules) (is r.number h) ∙ above_stay r.number rules rising.0

    behind : Bool → List ℕ
    behind j = numbers (cond j (r ∷ filter is_justified (without_rule rules n)) (filter is_justified (without_rule rules n)))

    by : (b : Bool) → (r.number == n) ≡ b → (j : Bool) → is_justified r ≡ j → rest ≡ justification_numbers (without_rule rules n)
        → remove_key (is_at (nat_cmp n)) (numbers (cond j (r ∷ filter is_justified rules) (filter is_justified rules))) ≡ justification_numbers (cond (not b) (r ∷ without_rule rules n) (without_rule rules n))
    by true h true k later = ap (λ c. cond c (justification_numbers rules) (r.number ∷ rest)) (found r.number h) ∙ sym (ap justification_numbers (stays h))
    by true h false k later = later
    by false h true k later =
        ap (λ c. cond c (justification_numbers rules) (r.number ∷ rest)) (missed r.number h) ∙ ap (λ (l : List ℕ). r.number ∷ l) later ∙ sym (ap behind k)
    by false h false k later = later ∙ sym (ap behind k)
