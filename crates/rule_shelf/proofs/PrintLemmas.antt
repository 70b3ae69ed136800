-- The numbers of the rules of a fingerprint, as they stand under it.
use Rattle.std.proofs.Common.{◌≡◌, refl, sym, ◌∙◌, ap, ap₂, ℕ, ◌+◌, ◌-◌, ◌^◌, ◌<◌, ◌≤◌, ◌==◌, nat_lt, Bool, true, false, ◌&&◌, ◌||◌, not, cond, List, [], ◌∷◌, map, filter, Some, None, arith}
use Rattle.std.specs.BTreeMap.{is_at}
use Rattle.std.specs.BTreeMap.Range.{range_contains}
use Rattle.std.specs.BTreeSet.{keys_between, IsOrdered}
use Rattle.std.specs.List.{list_any, AllByRecursion}
use Rattle.std.specs.List.Sorted.{IsStrictlySortedBy}
use Rattle.std.specs.Ordering.{is_eq, is_le, is_lt, nat_cmp, ordering_then}
use Rattle.std.specs.declared.cmp.Ordering.{Ordering}
use Rattle.std.specs.declared.cmp.Ordering.TheVariants.{Less, Equal, Greater}
use Rattle.std.specs.declared.ops.Bound.TheVariants.{Included}
use Rattle.body_marks.specs.Fingerprint.{fingerprint}
use Rattle.defs_match.specs.Contents.{rule_numbered}
use Rattle.defs_match.specs.Rules.{RuleOf}
use Rattle.rule_shelf.specs.declared.index.Index.{Index}
use Rattle.rule_shelf.specs.Marks.{has_print, is_print, print_cmp, IsIndexed}
use Rattle.rule_shelf.specs.Shelf.{alike_numbers, AreAbove, AreBelow, IsRising}
use Rattle.rule_shelf.proofs.RuleLemmas.{none_numbered}

-- ---- lists of numbers that rise, with the same members

abbrev pub member : List ℕ → ℕ → Bool
member ns n = list_any (λ m. m == n) ns

abbrev pub KeysAbove : ℕ → List ℕ → Type 0
KeysAbove n [] = Unit {0}
KeysAbove n (k ∷ ks) = (n < k) × KeysAbove n ks

abbrev pub KeysRise : List ℕ → Type 0
KeysRise [] = Unit {0}
KeysRise (k ∷ ks) = KeysAbove k ks × KeysRise ks

itself : (n : ℕ) → (n == n) ≡ true
itself n = grind arith

first_in : (n : ℕ) (ns : List ℕ) → member (n ∷ ns) n ≡ true
first_in n ns = ap (λ b. b || member ns n) (itself n)

-- a member of those that are above is above
above_member : (n k : ℕ) (ns : List ℕ) → KeysAbove n ns → member ns k ≡ true → n < k
above_member n k [] above there = absurd (cc)
above_member n k (m ∷ ns) above there = by (m == k) refl there (above_member n k ns above.1)
  where
    less : (m : ℕ) → (m == k) ≡ true → n < m → n < k
    less m h l = grind arith

    by : (b : Bool) → (m == k) ≡ b → (b || member ns k) ≡ true → (member ns k ≡ true → n < k) → n < k
    by true h at later = less m h above.0
    by false h at later = later at

at_least : (n k : ℕ) (ns : List ℕ) → KeysAbove n ns → member (n ∷ ns) k ≡ true → n ≤ k
at_least n k ns above there = by (n == k) refl there
  where
    same : (n : ℕ) → (n == k) ≡ true → n ≤ k
    same n h = grind arith

    less : (n : ℕ) → n < k → n ≤ k
    less n h = omega (arith, h)

    by : (b : Bool) → (n == k) ≡ b → (b || member ns k) ≡ true → n ≤ k
    by true h at = same n h
    by false h at = less n (above_member n k ns above at)

none_here : (n k : ℕ) (ns : List ℕ) → KeysAbove n ns → (n == k) ≡ true → member ns k ≡ false
none_here n k ns above h = by (member ns k) refl
  where
    never : (n : ℕ) → (n == k) ≡ true → n < k → ⊥
    never n e less = grind arith

    by : (b : Bool) → member ns k ≡ b → b ≡ false
    by true at = absurd (never n h (above_member n k ns above at))
    by false at = refl

same_rising : (ms ns : List ℕ) → KeysRise ms → KeysRise ns → ((k : ℕ) → member ms k ≡ member ns k) → ms ≡ ns
same_rising [] [] r s h = refl
same_rising [] (n ∷ ns) r s h = (let bad : false ≡ true = h n ∙ first_in n ns in absurd (cc))
same_rising (m ∷ ms) [] r s h = (let bad : false ≡ true = sym (h m) ∙ first_in m ms in absurd (cc))
same_rising (m ∷ ms) (n ∷ ns) r s h = ap₂ (λ k (ks : List ℕ). k ∷ ks) one (same_rising ms ns r.1 s.1 rest)
  where
    down : n ≤ m
    down = at_least n m ns s.0 (sym (h m) ∙ first_in m ms)

    up : m ≤ n
    up = at_least m n ms r.0 (h n ∙ first_in n ns)

    one : m ≡ n
    one = omega (arith, down, up)

    rest : (k : ℕ) → member ms k ≡ member ns k
    rest k = by (m == k) refl
      where
        other : (n == k) ≡ (m == k)
        other = ap (λ x. x == k) (sym one)

        by : (b : Bool) → (m == k) ≡ b → member ms k ≡ member ns k
        by true e = none_here m k ms r.0 e ∙ sym (none_here n k ns s.0 (other ∙ e))
        by false e = sym (ap (λ b. b || member ms k) e) ∙ h k ∙ ap (λ b. b || member ns k) (other ∙ e)

-- ---- the numbers of the rules

none_above : (n k : ℕ) (rules : List RuleOf) → AreAbove n rules → (n == k) ≡ true → rule_numbered k rules ≡ None
none_above n k [] above h = refl
none_above n k (e ∷ rules) above h = ap (λ b. cond b (Some e) (rule_numbered k rules)) (apart n e.number h above.0) ∙ none_above n k rules above.1 h
  where
    apart : (n m : ℕ) → (n == k) ≡ true → n < m → (m == k) ≡ false
    apart n m e less = grind arith

pub alike_above : (print n : ℕ) (rules : List RuleOf) → AreAbove n rules → KeysAbove n (alike_numbers print rules)
alike_above print n [] above = tt
alike_above print n (e ∷ rules) above = by (fingerprint e.production == print) (alike_above print n rules above.1)
  where
    among : List RuleOf
    among = filter (λ (rule : RuleOf). fingerprint rule.production == print) rules

    by : (b : Bool) → KeysAbove n (alike_numbers print rules) → KeysAbove n (map (λ (rule : RuleOf). rule.number) (cond b (e ∷ among) among))
    by true later = (above.0, later)
    by false later = later

alike_rise : (print : ℕ) (rules : List RuleOf) → IsRising rules → KeysRise (alike_numbers print rules)
alike_rise print [] rising = tt
alike_rise print (e ∷ rules) rising = by (fingerprint e.production == print) (alike_rise print rules rising.1)
  where
    among : List RuleOf
    among = filter (λ (rule : RuleOf). fingerprint rule.production == print) rules

    by : (b : Bool) → KeysRise (alike_numbers print rules) → KeysRise (map (λ (rule : RuleOf). rule.number) (cond b (e ∷ among) among))
    by true later = (alike_above print e.number rules rising.0, later)
    by false later = later

alike_members : (print n : ℕ) (rules : List RuleOf) → IsRising rules → member (alike_numbers print rules) n ≡ is_print print (rule_numbered n rules)
alike_members print n [] rising = refl
alike_members print n (e ∷ rules) rising = by (fingerprint e.production == print) refl (e.number == n) refl (alike_members print n rules rising.1)
  where
    among : List RuleOf
    among = filter (λ (rule : RuleOf). fingerprint rule.production == print) rules

    by : (b : Bool) → (fingerprint e.production == print) ≡ b → (c : Bool) → (e.number == n) ≡ c → member (alike_numbers print rules) n ≡ is_print print (rule_numbered n rules)
        → member (map (λ (rule : RuleOf). rule.number) (cond b (e ∷ among) among)) n ≡ is_print print (cond c (Some e) (rule_numbered n rules))
    by true is true at later = ap (λ d. d || member (alike_numbers print rules) n) at ∙ sym is
    by true is false at later = ap (λ d. d || member (alike_numbers print rules) n) at ∙ later
    by false is true at later = later ∙ ap (is_print print) (none_above e.number n rules rising.0 at) ∙ sym is
    by false is false at later = later

-- ---- the places under a fingerprint

in_range : ℕ → ℕ × ℕ → Bool
in_range print q = range_contains print_cmp (Included (print, 0)) (Included (print, 2 ^ 64 - 1)) q

-- the number stands under the fingerprint, and is below 2^64
here : (print n : ℕ) (q : ℕ × ℕ) → (in_range print q && (q.1 == n)) ≡ (is_at (print_cmp (print, n)) q && nat_lt n (2 ^ 64))
unfolding in_range
here print n q = by (nat_cmp print q.0)
  where
    from : (m : ℕ) → is_le (nat_cmp 0 m) ≡ true
    from m = grind arith

    upto : (last m : ℕ) → (m == n) ≡ true → not (is_lt (nat_cmp last m)) ≡ nat_lt n (last + 1)
    upto last m h = grind arith

    apart : (m : ℕ) → is_eq (nat_cmp n m) ≡ (m == n)
    apart m = grind arith

    ended : (a : Bool) → (a && false) ≡ false
    ended true = refl
    ended false = refl

    so : (a : Bool) → (a && true) ≡ a
    so true = refl
    so false = refl

    number : (c : Bool) → (q.1 == n) ≡ c → (not (is_lt (nat_cmp (2 ^ 64 - 1) q.1)) && c) ≡ (c && nat_lt n (2 ^ 64))
    number true h = so (not (is_lt (nat_cmp (2 ^ 64 - 1) q.1))) ∙ upto (2 ^ 64 - 1) q.1 h
    number false h = ended (not (is_lt (nat_cmp (2 ^ 64 - 1) q.1)))

    by : (o : Ordering) → ((is_le (ordering_then o (nat_cmp 0 q.1)) && not (is_lt (ordering_then o (nat_cmp (2 ^ 64 - 1) q.1)))) && (q.1 == n)) ≡ (is_eq (ordering_then o (nat_cmp n q.1)) && nat_lt n (2 ^ 64))
    by Less = refl
    by Equal =
        ap (λ b. (b && not (is_lt (nat_cmp (2 ^ 64 - 1) q.1))) && (q.1 == n)) (from q.1) ∙ number (q.1 == n) refl ∙ ap (λ b. b && nat_lt n (2 ^ 64)) (sym (apart q.1))
    by Greater = refl

place_members : (print n : ℕ) (places : List (ℕ × ℕ)) → member (map (λ q. q.1) (filter (in_range print) places)) n ≡ (has_print places (print, n) && nat_lt n (2 ^ 64))
place_members print n [] = refl
place_members print n (q ∷ places) = by (in_range print q) (here print n q) (place_members print n places)
  where
    numbers : Bool → List ℕ
    numbers b = map (λ (p : ℕ × ℕ). p.1) (cond b (q ∷ filter (in_range print) places) (filter (in_range print) places))

    spread : (a h l : Bool) → ((a && l) || (h && l)) ≡ ((a || h) && l)
    spread true h true = refl
    spread true true false = refl
    spread true false false = refl
    spread false h l = refl

    by : (b : Bool) → (b && (q.1 == n)) ≡ (is_at (print_cmp (print, n)) q && nat_lt n (2 ^ 64))
        → member (map (λ (p : ℕ × ℕ). p.1) (filter (in_range print) places)) n ≡ (has_print places (print, n) && nat_lt n (2 ^ 64))
        → member (numbers b) n ≡ ((is_at (print_cmp (print, n)) q || has_print places (print, n)) && nat_lt n (2 ^ 64))
    by true h later = ap₂ (λ c d. c || d) h later ∙ spread (is_at (print_cmp (print, n)) q) (has_print places (print, n)) (nat_lt n (2 ^ 64))
    by false h later = ap₂ (λ c d. c || d) h later ∙ spread (is_at (print_cmp (print, n)) q) (has_print places (print, n)) (nat_lt n (2 ^ 64))

-- what stands in the range is of the fingerprint
of_it : (print : ℕ) (q : ℕ × ℕ) → in_range print q ≡ true → print ≡ q.0
unfolding in_range
of_it print q h = by (nat_cmp print q.0) refl h
  where
    tied : (m n : ℕ) → nat_cmp m n ≡ Equal → m ≡ n
    tied m n e = grind arith

    by : (o : Ordering) → nat_cmp print q.0 ≡ o → (is_le (ordering_then o (nat_cmp 0 q.1)) && not (is_lt (ordering_then o (nat_cmp (2 ^ 64 - 1) q.1)))) ≡ true → print ≡ q.0
    by Less is at = absurd (cc)
    by Equal is at = tied print q.0 is
    by Greater is at = absurd (cc)

later_place : (print : ℕ) (p q : ℕ × ℕ) → in_range print p ≡ true → in_range print q ≡ true → print_cmp p q ≡ Less → p.1 < q.1
later_place print p q h k less = number p.1 q.1 (sym (ap (λ o. ordering_then o (nat_cmp p.1 q.1)) (equal p.0 q.0 (sym (of_it print p h) ∙ of_it print q k))) ∙ less)
  where
    equal : (m n : ℕ) → m ≡ n → nat_cmp m n ≡ Equal
    equal m n e = grind arith

    number : (m n : ℕ) → nat_cmp m n ≡ Less → m < n
    number m n e = grind arith

places_above : (print : ℕ) (p : ℕ × ℕ) (places : List (ℕ × ℕ)) → in_range print p ≡ true → AllByRecursion (λ q. print_cmp p q ≡ Less) places → KeysAbove p.1 (map (λ q. q.1) (filter (in_range print) places))
places_above print p [] h all = tt
places_above print p (q ∷ places) h all = by (in_range print q) refl (places_above print p places h all.1)
  where
    among : List (ℕ × ℕ)
    among = filter (in_range print) places

    by : (b : Bool) → in_range print q ≡ b → KeysAbove p.1 (map (λ (r : ℕ × ℕ). r.1) among) → KeysAbove p.1 (map (λ (r : ℕ × ℕ). r.1) (cond b (q ∷ among) among))
    by true is later = (later_place print p q h is all.0, later)
    by false is later = later

places_rise : (print : ℕ) (places : List (ℕ × ℕ)) → IsStrictlySortedBy print_cmp places → KeysRise (map (λ q. q.1) (filter (in_range print) places))
unfolding IsStrictlySortedBy
places_rise print [] sorted = tt
places_rise print (p ∷ places) sorted = by (in_range print p) refl (places_rise print places sorted.1)
  where
    among : List (ℕ × ℕ)
    among = filter (in_range print) places

    by : (b : Bool) → in_range print p ≡ b → KeysRise (map (λ (r : ℕ × ℕ). r.1) among) → KeysRise (map (λ (r : ℕ × ℕ). r.1) (cond b (p ∷ among) among))
    by true is later = (places_above print p places is sorted.0, later)
    by false is later = later

-- ---- the two are the same

all_below : (limit n : ℕ) (rules : List RuleOf) → AreBelow limit rules → limit ≤ n → AreBelow n rules
all_below limit n [] below le = tt
all_below limit n (e ∷ rules) below le = (omega (arith, below.0, le), all_below limit n rules below.1 le)

small_number : (print n : ℕ) (rules : List RuleOf) → AreBelow (2 ^ 64) rules → (is_print print (rule_numbered n rules) && nat_lt n (2 ^ 64)) ≡ is_print print (rule_numbered n rules)
small_number print n rules below = by (nat_lt n (2 ^ 64)) refl
  where
    so : (a : Bool) → (a && true) ≡ a
    so true = refl
    so false = refl

    large : (m limit : ℕ) → nat_lt m limit ≡ false → limit ≤ m
    large m limit h = grind arith

    by : (b : Bool) → nat_lt n (2 ^ 64) ≡ b → (is_print print (rule_numbered n rules) && b) ≡ is_print print (rule_numbered n rules)
    by true h = so (is_print print (rule_numbered n rules))
    by false h =
        let none : rule_numbered n rules ≡ None = none_numbered n rules (all_below (2 ^ 64) n rules below (large n (2 ^ 64) h)) in
        ap (λ o. is_print print o && false) none ∙ sym (ap (is_print print) none)

pub alike_found : (print : ℕ) (rules : List RuleOf) (index : Index) (r : List (ℕ × ℕ)) → IsIndexed rules index
    → r ≡ keys_between print_cmp (Included (print, 0)) (Included (print, 2 ^ 64 - 1)) index.prints → IsOrdered print_cmp index.prints → map (λ q. q.1) r ≡ alike_numbers print rules
unfolding in_range
alike_found print rules index r indexed between ordered =
    ap (map (λ (q : ℕ × ℕ). q.1)) between
    ∙ same_rising (map (λ (q : ℕ × ℕ). q.1) (filter (in_range print) index.prints.keys)) (alike_numbers print rules) (places_rise print index.prints.keys ordered) (alike_rise print rules indexed.rising)
    (λ n.
    place_members print n index.prints.keys ∙ ap (λ b. b && nat_lt n (2 ^ 64)) (indexed.printed (print, n)) ∙ small_number print n rules indexed.small
    ∙ sym (alike_members print n rules indexed.rising))
