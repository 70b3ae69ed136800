-- Rules that go by their numbers, in turn; and the justifications of firings, whose numbers are found one by one.
use Rattle.std.proofs.Common.{◌≡◌, ◌∙◌, ℕ, ◌<◌, ◌==◌, nat_lt, ◌&&◌, ◌||◌, Bool, true, false, not, cond, List, [], ◌∷◌, map, filter, is_some, Bor, Option, Some, None, refl, sym, ap, ap₂, arith}
use Rattle.std.specs.BTreeSet.{insert_key}
use Rattle.std.specs.List.{list_any}
use Rattle.std.specs.Option.{option_copied, option_map}
use Rattle.std.specs.Ordering.{match_ordering, nat_cmp}
use Rattle.std.specs.declared.cmp.Ordering.TheVariants.{Less, Equal, Greater}
use Rattle.std.proofs.lemmas.List.Elements.{filter_agree}
use Rattle.defs_match.specs.Contents.{is_numbered, rule_numbered, without_rule}
use Rattle.defs_match.specs.Rules.{RuleOf, rule_seen}
use Rattle.defs_match.specs.declared.rule.Rule.{Rule}
use Rattle.defs_soar.specs.Waves.{is_spent}
use Rattle.live_firings.specs.Living.{live_seen}
use Rattle.live_firings.specs.declared.live.Live.{Live}
use Rattle.rule_shelf.specs.Shelf.{AreAbove, IsRising}
use Rattle.wave_parts.specs.Programs.{is_justified, numbers_where}
use Rattle.wave_parts.specs.Spent.{is_justified_at, with_each_justified, with_justified, without_each}
use Rattle.wave_parts.specs.Teaching.{is_numbered_among, without_numbers}

-- ---- rules that go in turn

eq_flip : (m n : ℕ) → (m == n) ≡ (n == m)
eq_flip m n = grind arith

pub none_gone : (rules : List RuleOf) → without_numbers [] rules ≡ rules
none_gone [] = refl
none_gone (rule ∷ rules) = ap (λ (l : List RuleOf). rule ∷ l) (none_gone rules)

first_gone : (number : ℕ) (numbers : List ℕ) (rules : List RuleOf) → without_numbers (number ∷ numbers) rules ≡ without_numbers numbers (without_rule rules number)
first_gone number numbers [] = refl
first_gone number numbers (rule ∷ rules) = ap (λ b. cond (not (b || is_numbered_among numbers rule)) (rule ∷ later) later) (eq_flip number rule.number) ∙ by (rule.number == number) (first_gone number numbers rules)
  where
    later : List RuleOf
    later = without_numbers (number ∷ numbers) rules

    kept : (b : Bool) → later ≡ without_numbers numbers (without_rule rules number)
        → cond b (rule ∷ later) later ≡ cond b (rule ∷ without_numbers numbers (without_rule rules number)) (without_numbers numbers (without_rule rules number))
    kept b is = ap (λ (l : List RuleOf). cond b (rule ∷ l) l) is

    by : (b : Bool) → later ≡ without_numbers numbers (without_rule rules number)
        → cond (not (b || is_numbered_among numbers rule)) (rule ∷ later) later ≡ without_numbers numbers (cond (not b) (rule ∷ without_rule rules number) (without_rule rules number))
    by true is = is
    by false is = kept (not (is_numbered_among numbers rule)) is

pub each_gone : (numbers : List ℕ) (rules : List RuleOf) → without_each rules numbers ≡ without_numbers numbers rules
each_gone [] rules = sym (none_gone rules)
each_gone (number ∷ numbers) rules = each_gone numbers (without_rule rules number) ∙ sym (first_gone number numbers rules)

-- ---- numbers among rules in order

-- the number joins those that pass, where it is of a justification
abbrev joins : (RuleOf → Bool) → ℕ → RuleOf → Bool
joins p number rule = p rule || (is_justified rule && (number == rule.number))

-- all are above this one
abbrev KeysAbove : ℕ → List ℕ → Type 0
KeysAbove n [] = Unit {0}
KeysAbove n (k ∷ ks) = (n < k) × KeysAbove n ks

less : (m n : ℕ) → m < n → nat_cmp m n ≡ Less
less m n h = grind arith

equal : (m n : ℕ) → m ≡ n → nat_cmp m n ≡ Equal
equal m n h = grind arith

greater : (m n : ℕ) → n < m → nat_cmp m n ≡ Greater
greater m n h = grind arith

unlike : (m n : ℕ) → m < n → (m == n) ≡ false
unlike m n h = grind arith

unlike_back : (m n : ℕ) → n < m → (m == n) ≡ false
unlike_back m n h = grind arith

insert_first : (n : ℕ) (ks : List ℕ) → KeysAbove n ks → insert_key nat_cmp ks n ≡ n ∷ ks
insert_first n [] above = refl
insert_first n (k ∷ ks) above = ap (λ o. match_ordering o (n ∷ k ∷ ks) (k ∷ ks) (k ∷ insert_key nat_cmp ks n)) (less n k above.0)

keys_above : (p : RuleOf → Bool) (n : ℕ) (rules : List RuleOf) → AreAbove n rules → KeysAbove n (numbers_where p rules)
keys_above p n [] above = tt
keys_above p n (r ∷ rules) above = by (p r) (keys_above p n rules above.1)
  where
    by : (b : Bool) → KeysAbove n (numbers_where p rules) → KeysAbove n (map (λ (q : RuleOf). q.number) (cond b (r ∷ filter p rules) (filter p rules)))
    by true later = (above.0, later)
    by false later = later

none_above : (n : ℕ) (rules : List RuleOf) → AreAbove n rules → rule_numbered n rules ≡ None
none_above n [] above = refl
none_above n (r ∷ rules) above = ap (λ b. cond b (Some r) (rule_numbered n rules)) (unlike_back r.number n above.0) ∙ none_above n rules above.1

or_false : (a b : Bool) → (a || (b && false)) ≡ a
or_false true b = refl
or_false false true = refl
or_false false false = refl

same_above : (p : RuleOf → Bool) (n : ℕ) (rules : List RuleOf) → AreAbove n rules → filter (joins p n) rules ≡ filter p rules
same_above p n [] above = refl
same_above p n (r ∷ rules) above = λ i. cond (same i) (r ∷ same_above p n rules above.1 i) (same_above p n rules above.1 i)
  where
    same : joins p n r ≡ p r
    same = ap (λ b. p r || (is_justified r && b)) (unlike n r.number above.0) ∙ or_false (p r) (is_justified r)

more_above : (m n : ℕ) (rules : List RuleOf) → m < n → AreAbove n rules → AreAbove m rules
more_above m n [] less above = tt
more_above m n (r ∷ rules) less above = (let high : n < r.number = above.0 in omega arith, more_above m n rules less above.1)

pub one_joins : (p : RuleOf → Bool) (n : ℕ) (rules : List RuleOf) → IsRising rules → with_justified rules (numbers_where p rules) n ≡ numbers_where (joins p n) rules
one_joins p n [] rising = refl
one_joins p n (r ∷ rules) rising = by (nat_lt n r.number) refl (nat_lt r.number n) refl (one_joins p n rules rising.1)
  where
    keys : List ℕ
    keys = numbers_where p rules

    own : Bool → List ℕ
    own q = map (λ (x : RuleOf). x.number) (cond q (r ∷ filter p rules) (filter p rules))

    all : List RuleOf → Bool → List ℕ
    all rest q = map (λ (x : RuleOf). x.number) (cond q (r ∷ rest) rest)

    -- above the number there is none of it
    lower : n < r.number → with_justified (r ∷ rules) (own (p r)) n ≡ numbers_where (joins p n) (r ∷ rules)
    lower h =
        let above : AreAbove n (r ∷ rules) = (h, more_above n r.number rules h rising.0) in
        ap (λ (o : Option RuleOf). cond (is_justified_at o) (insert_key nat_cmp (own (p r)) n) (own (p r))) (none_above n (r ∷ rules) above)
        ∙ sym (ap (map (λ (x : RuleOf). x.number)) (same_above p n (r ∷ rules) above))

    higher_for : (q b : Bool) → r.number < n → cond b (insert_key nat_cmp keys n) keys ≡ numbers_where (joins p n) rules
        → cond b (insert_key nat_cmp (own q) n) (own q) ≡ all (filter (joins p n) rules) q
    higher_for true true h later =
        ap (λ o. match_ordering o (n ∷ r.number ∷ keys) (r.number ∷ keys) (r.number ∷ insert_key nat_cmp keys n)) (greater n r.number h) ∙ ap (λ (ks : List ℕ). r.number ∷ ks) later
    higher_for true false h later = ap (λ (ks : List ℕ). r.number ∷ ks) later
    higher_for false b h later = later

    higher : r.number < n → with_justified rules keys n ≡ numbers_where (joins p n) rules → with_justified (r ∷ rules) (own (p r)) n ≡ numbers_where (joins p n) (r ∷ rules)
    higher h later =
        ap (λ c. cond (is_justified_at (cond c (Some r) (rule_numbered n rules))) (insert_key nat_cmp (own (p r)) n) (own (p r))) (unlike r.number n h)
        ∙ higher_for (p r) (is_justified_at (rule_numbered n rules)) h later
        ∙ ap (all (filter (joins p n) rules)) (sym (ap (λ c. p r || (is_justified r && c)) (unlike_back n r.number h) ∙ or_false (p r) (is_justified r)))

    -- the first rule has the number
    here_for : (q j : Bool) → n ≡ r.number → cond j (insert_key nat_cmp (own q) n) (own q) ≡ all (filter p rules) (q || (j && true))
    here_for true true same = ap (λ o. match_ordering o (n ∷ r.number ∷ keys) (r.number ∷ keys) (r.number ∷ insert_key nat_cmp keys n)) (equal n r.number same)
    here_for true false same = refl
    here_for false true same =
        ap (insert_key nat_cmp keys) same ∙ insert_first r.number keys (keys_above p r.number rules rising.0)
    here_for false false same = refl

    own_number : n ≡ r.number → (r.number == n) ≡ true
    own_number h = grind arith

    own_back : n ≡ r.number → (n == r.number) ≡ true
    own_back h = grind arith

    here : n ≡ r.number → with_justified (r ∷ rules) (own (p r)) n ≡ numbers_where (joins p n) (r ∷ rules)
    here same =
        ap (λ c. cond (is_justified_at (cond c (Some r) (rule_numbered n rules))) (insert_key nat_cmp (own (p r)) n) (own (p r))) (own_number same)
        ∙ here_for (p r) (is_justified r) same
        ∙ ap₂ all (sym (ap (λ m. filter (joins p m) rules) same ∙ same_above p r.number rules rising.0)) (sym (ap (λ c. p r || (is_justified r && c)) (own_back same)))

    by : (a : Bool) → nat_lt n r.number ≡ a → (b : Bool) → nat_lt r.number n ≡ b → with_justified rules keys n ≡ numbers_where (joins p n) rules
        → with_justified (r ∷ rules) (own (p r)) n ≡ numbers_where (joins p n) (r ∷ rules)
    by true h b k later = lower (grind arith)
    by false h true k later = higher (grind arith) later
    by false h false k later = here (grind arith)

-- ---- the rules of firings

passes_more : (a j e l : Bool) → ((a || (j && e)) || (j && l)) ≡ (a || (j && (e || l)))
passes_more true j e l = refl
passes_more false true true l = refl
passes_more false true false l = refl
passes_more false false e l = refl

each_joins : (p : RuleOf → Bool) (gone : List Live) (rules : List RuleOf) → IsRising rules
    → with_each_justified rules (numbers_where p rules) gone ≡ numbers_where (λ rule. p rule || is_spent (map live_seen gone) rule) rules
each_joins p [] rules rising =
    ap (map (λ (r : RuleOf). r.number)) (filter_agree p (λ rule. p rule || (is_justified rule && false)) (λ rule. sym (or_false (p rule) (is_justified rule))) rules)
each_joins p (l ∷ gone) rules rising =
    ap (λ ns. with_each_justified rules ns gone) (one_joins p l.instance.rule rules rising)
    ∙ each_joins (joins p l.instance.rule) gone rules rising
    ∙ ap (map (λ (r : RuleOf). r.number))
    (filter_agree (λ rule. joins p l.instance.rule rule || is_spent (map live_seen gone) rule) (λ rule. p rule || is_spent (map live_seen (l ∷ gone)) rule)
    (λ rule. passes_more (p rule) (is_justified rule) (l.instance.rule == rule.number) (list_any (λ f. f.instance.rule == rule.number) (map live_seen gone))) rules)

none_pass : (rules : List RuleOf) → numbers_where (λ rule. false) rules ≡ []
none_pass [] = refl
none_pass (rule ∷ rules) = none_pass rules

pub spent_found : (gone : List Live) (rules : List RuleOf) → IsRising rules → with_each_justified rules [] gone ≡ numbers_where (is_spent (map live_seen gone)) rules
spent_found gone rules rising = ap (λ ns. with_each_justified rules ns gone) (sym (none_pass rules)) ∙ each_joins (λ rule. false) gone rules rising

-- ---- the rule of an explanation

there : (n : ℕ) (rules : List RuleOf) → is_some (rule_numbered n rules) ≡ list_any (λ rule. rule.number == n) rules
there n [] = refl
there n (rule ∷ rules) = by (rule.number == n) (there n rules)
  where
    by : (c : Bool) → is_some (rule_numbered n rules) ≡ list_any (λ r. r.number == n) rules
        → is_some (cond c (Some rule) (rule_numbered n rules)) ≡ (c || list_any (λ r. r.number == n) rules)
    by true later = refl
    by false later = later

pub is_there : (n : ℕ) (rules : List RuleOf) (found : Option (Bor Rule)) → option_map rule_seen (option_copied found) ≡ rule_numbered n rules → is_some found ≡ list_any (λ rule. rule.number == n) rules
is_there n rules found is = seen found ∙ ap is_some is ∙ there n rules
  where
    seen : (o : Option (Bor Rule)) → is_some o ≡ is_some (option_map rule_seen (option_copied o))
    seen None = refl
    seen (Some rule) = refl
