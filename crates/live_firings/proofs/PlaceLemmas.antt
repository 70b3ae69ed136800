-- What stands at the places after changes, and what a range of them has.
use Rattle.std.proofs.Common.{◌≡◌, ℕ, ◌-◌, ◌^◌, ◌<◌, ◌≤◌, ◌==◌, nat_le, Bool, true, false, ◌&&◌, ◌||◌, not, cond, List, [], ◌∷◌, Option, Some, IfSome, is_some, slice_get, refl, sym, ap, ap₂, subst, ◌∙◌, arith}
use Rattle.std.specs.BTreeMap.{BTreeMap}
use Rattle.std.specs.BTreeMap.Range.{IsInRange, IsEntryInRange, IsRangeOf, range_contains}
use Rattle.std.specs.List.{list_any}
use Rattle.std.specs.Map.{lookup}
use Rattle.std.specs.Cmp.{tied_itself}
use Rattle.std.specs.Ordering.{is_eq, is_gt, is_le, is_lt, nat_cmp, ordering_then, ordering_reverse}
use Rattle.std.specs.declared.cmp.Ordering.{Ordering}
use Rattle.std.specs.declared.cmp.Ordering.TheVariants.{Less, Equal, Greater}
use Rattle.std.specs.declared.ops.Bound.TheVariants.{Included, Unbounded}
use Rattle.match_changes.specs.contracts.key.MatchKeyOrd.TheImpl.Laws as laws
use Rattle.match_changes.specs.declared.key.MatchKey.{MatchKey}
use Rattle.open_instances.specs.Keys.{key_cmp}
use Rattle.live_firings.specs.declared.index.Index.{Index}
use Rattle.live_firings.specs.Store.{IsDeep, Marked, MarkedOthers, Marks, MarksOthers, Places, has, of_match, place_cmp}

module _ {K : Type 0} (cmp : K → K → Ordering) where
  abbrev pub at_place : Places K → K × ℕ → Option (Unit {0})
  at_place places q = lookup (λ k. is_eq (place_cmp cmp q k)) places

  pub wrote : (old new : Places K) (p : K × ℕ) (w : Option (Unit {0})) → ((q : K × ℕ) → at_place new q ≡ cond (is_eq (place_cmp cmp p q)) w (at_place old q))
      → (q : K × ℕ) → has cmp new q ≡ cond (is_eq (place_cmp cmp p q)) (is_some w) (has cmp old q)
  wrote old new p w up q = ap is_some (up q) ∙ by (is_eq (place_cmp cmp p q))
    where
      by : (b : Bool) → is_some (cond b w (at_place old q)) ≡ cond b (is_some w) (has cmp old q)
      by true = refl
      by false = refl

  pub marks_others : (p : K × ℕ) (now : Bool) (old new : Places K) → Marks cmp p now old new → MarksOthers cmp p old new
  marks_others p now old new marks q e = marks q ∙ ap (λ b. cond b now (has cmp old q)) e

  pub same_others : (p : K × ℕ) (old new : Places K) → new ≡ old → MarksOthers cmp p old new
  same_others p old new same q e = ap (λ places. has cmp places q) same

  pub unmarked : (p : K × ℕ) (old mid new : Places K) → MarksOthers cmp p old mid → Marks cmp p false mid new → Marks cmp p false old new
  unmarked p old mid new others down q = down q ∙ by (is_eq (place_cmp cmp p q)) refl
    where
      by : (b : Bool) → is_eq (place_cmp cmp p q) ≡ b → cond b false (has cmp mid q) ≡ cond b false (has cmp old q)
      by true e = refl
      by false e = others q e

module _ (number depth : ℕ) (key : MatchKey) (place : ℕ) (old mid new : Index) where
  pub all_unmarked : MarkedOthers number depth key place old mid → Marked number depth key place false mid new → Marked number depth key place false old new
  all_unmarked others down = record {
    numbers = unmarked nat_cmp (number, place) old.numbers.entries mid.numbers.entries new.numbers.entries others.numbers down.numbers;
    depths = unmarked nat_cmp (depth, place) old.depths.entries mid.depths.entries new.depths.entries others.depths down.depths;
    matches = unmarked key_cmp (key, place) old.matches.entries mid.matches.entries new.matches.entries others.matches down.matches;
  }

  pub all_remarked : Marked number depth key place true old mid → Marked number depth key place false mid new → Marked number depth key place false old new
  all_remarked up down = all_unmarked (record {
    numbers = marks_others nat_cmp (number, place) true old.numbers.entries mid.numbers.entries up.numbers;
    depths = marks_others nat_cmp (depth, place) true old.depths.entries mid.depths.entries up.depths;
    matches = marks_others key_cmp (key, place) true old.matches.entries mid.matches.entries up.matches;
  }) down

-- ---- the places of a number

abbrev pub Under : ℕ → ℕ × ℕ → Type 0
Under key p = IsInRange (place_cmp nat_cmp) (Included (key, 0)) (Included (key, 18446744073709551615)) p

same : (m n : ℕ) → nat_cmp m n ≡ Equal → m ≡ n
same m n h = grind arith

tied : (n : ℕ) → nat_cmp n n ≡ Equal
tied n = grind arith

turned : (m n : ℕ) → nat_cmp m n ≡ ordering_reverse (nat_cmp n m)
turned m n = grind arith

-- what stands between the ends of a number is of the number
of_it : (key : ℕ) (p : ℕ × ℕ) → Under key p → p.0 ≡ key
of_it key p under = same p.0 key (by (nat_cmp p.0 key) refl)
  where
    low : (o : Ordering) → nat_cmp p.0 key ≡ o → is_gt (ordering_then (ordering_reverse o) (nat_cmp 0 p.1)) ≡ false
    low o is = ap (λ x. is_gt (ordering_then x (nat_cmp 0 p.1))) (sym (turned key p.0 ∙ ap ordering_reverse is)) ∙ under.0

    high : (o : Ordering) → nat_cmp p.0 key ≡ o → is_gt (ordering_then o (nat_cmp p.1 (18446744073709551615))) ≡ false
    high o is = ap (λ x. is_gt (ordering_then x (nat_cmp p.1 (18446744073709551615)))) (sym is) ∙ under.1

    by : (o : Ordering) → nat_cmp p.0 key ≡ o → nat_cmp p.0 key ≡ Equal
    by Less is = (let bad : true ≡ false = low Less is in absurd (cc))
    by Equal is = is
    by Greater is = (let bad : true ≡ false = high Greater is in absurd (cc))

from_zero : (n : ℕ) → is_gt (nat_cmp 0 n) ≡ false
from_zero n = grind arith

under : (key : ℕ) (n : ℕ) → n < 2 ^ 64 → Under key (key, n)
under key n small =
    (ap (λ o. is_gt (ordering_then o (nat_cmp 0 n))) (tied key) ∙ from_zero n, ap (λ o. is_gt (ordering_then o (nat_cmp n (18446744073709551615)))) (tied key) ∙ upto n (18446744073709551615) (omega (arith, small)))
  where
    upto : (m n : ℕ) → m ≤ n → is_gt (nat_cmp m n) ≡ false
    upto m n h = grind arith

-- a range with these ends
abbrev pub Between : ℕ × ℕ → ℕ × ℕ → BTreeMap (ℕ × ℕ) (Unit {0}) → Places ℕ → Type 0
Between lo hi m r = IsRangeOf (place_cmp nat_cmp) (Included lo) (Included hi) m r

between : (key : ℕ) (m : BTreeMap (ℕ × ℕ) (Unit {0})) (r : Places ℕ) (lo hi : ℕ × ℕ) → lo ≡ (key, 0) → hi ≡ (key, 18446744073709551615) → Between lo hi m r → Between (key, 0) (key, 18446744073709551615) m r
between key m r lo hi is_lo is_hi range = subst (λ a. Between a (key, 18446744073709551615) m r) is_lo (subst (λ b. Between lo b m r) is_hi range)

pub first_stands : (key : ℕ) (m : BTreeMap (ℕ × ℕ) (Unit {0})) (r : Places ℕ) (lo hi : ℕ × ℕ) → lo ≡ (key, 0) → hi ≡ (key, 18446744073709551615) → Between lo hi m r → (x : (ℕ × ℕ) × Unit {0}) (rest : Places ℕ) → r ≡ x ∷ rest
    → has nat_cmp m.entries (key, x.0.1) ≡ true
first_stands key m r lo hi is_lo is_hi range x rest is =
    let here : IsEntryInRange (place_cmp nat_cmp) (Included (key, 0)) (Included (key, 18446744073709551615)) m x
    = subst (λ es. IfSome (slice_get es 0) (IsEntryInRange (place_cmp nat_cmp) (Included (key, 0)) (Included (key, 18446744073709551615)) m)) is (between key m r lo hi is_lo is_hi range).1 in
    ap (λ k. has nat_cmp m.entries (k, x.0.1)) (sym (of_it key x.0 here.0)) ∙ ap is_some here.1

pub none_stands : (key : ℕ) (m : BTreeMap (ℕ × ℕ) (Unit {0})) (r : Places ℕ) (lo hi : ℕ × ℕ) → lo ≡ (key, 0) → hi ≡ (key, 18446744073709551615) → Between lo hi m r → r ≡ [] → (n : ℕ) → n < 2 ^ 64 → has nat_cmp m.entries (key, n) ≡ false
none_stands key m r lo hi is_lo is_hi range empty n small = ap is_some ((between key m r lo hi is_lo is_hi range).5 empty (key, n) (under key n small))

-- ---- the places from a depth on

not_above : (a b c : ℕ) → is_gt (ordering_then (nat_cmp a b) (nat_cmp 0 c)) ≡ false → a ≤ b
not_above a b c h = by (nat_cmp a b) refl h
  where
    less : nat_cmp a b ≡ Less → a ≤ b
    less e = grind arith

    equal : nat_cmp a b ≡ Equal → a ≤ b
    equal e = grind arith

    by : (o : Ordering) → nat_cmp a b ≡ o → is_gt (ordering_then o (nat_cmp 0 c)) ≡ false → a ≤ b
    by Less e h = less e
    by Equal e h = equal e
    by Greater e h = absurd (cc)

is_above : (a b c : ℕ) → a ≤ b → is_gt (ordering_then (nat_cmp a b) (nat_cmp 0 c)) ≡ false
is_above a b c le = by (nat_cmp a b) refl
  where
    never : nat_cmp a b ≡ Greater → true ≡ false
    never e = grind arith

    by : (o : Ordering) → nat_cmp a b ≡ o → is_gt (ordering_then o (nat_cmp 0 c)) ≡ false
    by Less e = refl
    by Equal e = from_zero c
    by Greater e = never e

abbrev pub From : ℕ → BTreeMap (ℕ × ℕ) (Unit {0}) → Places ℕ → Type 0
From depth m r = IsRangeOf (place_cmp nat_cmp) (Included (depth, 0)) Unbounded m r

pub deep_stands : (depth : ℕ) (m : BTreeMap (ℕ × ℕ) (Unit {0})) (r : Places ℕ) → From depth m r → (x : (ℕ × ℕ) × Unit {0}) (rest : Places ℕ) → r ≡ x ∷ rest → IsDeep depth m.entries x.0.1
deep_stands depth m r range x rest is =
    let here : IsEntryInRange (place_cmp nat_cmp) (Included (depth, 0)) Unbounded m x
    = subst (λ es. IfSome (slice_get es 0) (IsEntryInRange (place_cmp nat_cmp) (Included (depth, 0)) Unbounded m)) is range.1 in
    record { at = x.0.0; deep = not_above depth x.0.0 x.0.1 here.0.0; there = ap is_some here.1 }

pub none_deep : (depth : ℕ) (m : BTreeMap (ℕ × ℕ) (Unit {0})) (r : Places ℕ) → From depth m r → r ≡ [] → (d n : ℕ) → depth ≤ d → has nat_cmp m.entries (d, n) ≡ false
none_deep depth m r range empty d n le = ap is_some (range.5 empty (d, n) (is_above depth d n le, tt))

-- ---- the places of a key

-- what stands between copies of a key is in order
pub ends_rise : (key : MatchKey) (lo hi : MatchKey × ℕ) (low high : MatchKey) → lo ≡ (low, 0) → hi ≡ (high, 18446744073709551615) → low ≡ key → high ≡ key → is_gt (place_cmp key_cmp lo hi) ≡ false
ends_rise key lo hi low high is_lo is_hi is_low is_high =
    ap₂ (λ a b. is_gt (place_cmp key_cmp a b)) (is_lo ∙ ap (λ k. (k, 0)) is_low) (is_hi ∙ ap (λ k. (k, 18446744073709551615)) is_high)
    ∙ ap (λ o. is_gt (ordering_then o (nat_cmp 0 18446744073709551615))) (tied_itself laws.total-law key) ∙ from_zero 18446744073709551615

in_range : MatchKey → MatchKey × ℕ → Bool
in_range key q = range_contains (place_cmp key_cmp) (Included (key, 0)) (Included (key, 2 ^ 64 - 1)) q

one_place : (key : MatchKey) (p : ℕ) (q : MatchKey × ℕ) → (in_range key q && (q.1 == p)) ≡ (is_eq (place_cmp key_cmp (key, p) q) && nat_le p (2 ^ 64 - 1))
unfolding in_range
one_place key p q = by (key_cmp key q.0)
  where
    within : (m n p : ℕ) → ((is_le (nat_cmp 0 n) && not (is_lt (nat_cmp m n))) && (n == p)) ≡ (is_eq (nat_cmp p n) && nat_le p m)
    within m n p = grind arith

    by : (o : Ordering) → ((is_le (ordering_then o (nat_cmp 0 q.1)) && not (is_lt (ordering_then o (nat_cmp (2 ^ 64 - 1) q.1)))) && (q.1 == p)) ≡ (is_eq (ordering_then o (nat_cmp p q.1)) && nat_le p (2 ^ 64 - 1))
    by Less = refl
    by Equal = within (2 ^ 64 - 1) q.1 p
    by Greater = refl

pub key_places : (key : MatchKey) (p : ℕ) (places : Places MatchKey) → list_any (λ e. e.0.1 == p) (of_match key places) ≡ (has key_cmp places (key, p) && nat_le p (2 ^ 64 - 1))
unfolding in_range
key_places key p [] = refl
key_places key p (e ∷ es) = by (in_range key e.0) (is_eq (place_cmp key_cmp (key, p) e.0)) (nat_le p (2 ^ 64 - 1)) (one_place key p e.0) (key_places key p es)
  where
    absorbed : (a b : Bool) → (a || (b && a)) ≡ a
    absorbed true b = refl
    absorbed false true = refl
    absorbed false false = refl

    none : (a b : Bool) → false ≡ a → (b && a) ≡ a
    none a true h = refl
    none a false h = h

    by : (r s small : Bool) → (r && (e.0.1 == p)) ≡ (s && small) → list_any (λ e. e.0.1 == p) (of_match key es) ≡ (has key_cmp es (key, p) && small)
        → list_any (λ e. e.0.1 == p) (cond r (e ∷ of_match key es) (of_match key es)) ≡ (is_some (cond s (Some e.1) (at_place key_cmp es (key, p))) && small)
    by true true small one deep = ap₂ (λ a b. a || b) one deep ∙ absorbed small (has key_cmp es (key, p))
    by true false small one deep = ap (λ a. a || list_any (λ e. e.0.1 == p) (of_match key es)) one ∙ deep
    by false true small one deep = deep ∙ none small (has key_cmp es (key, p)) one
    by false false small one deep = deep
