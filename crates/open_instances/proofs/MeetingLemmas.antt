-- What was looked at stays so as live firings come and go.
use Rattle.std.proofs.Common.{◌≡◌, refl, sym, ap, ◌∙◌, subst, Bool, true, false, cond, ◌||◌, nat_lt, ℕ, ◌+◌, ◌-◌, List, Option, Some, None, arith}
use Rattle.std.specs.Prelude.{is_some}
use Rattle.std.specs.BTreeMap as map
use Rattle.std.specs.BTreeMap.{BTreeMap}
use Rattle.std.specs.BTreeSet as set
use Rattle.std.specs.BTreeSet.{BTreeSet}
use Rattle.defs_match.specs.declared.instance.Instance.{Instance}
use Rattle.match_changes.specs.declared.key.MatchKey.{MatchKey}
use Rattle.open_instances.specs.Keeping.{IsLookedIn, gone_of, open_of}
use Rattle.open_instances.specs.Keys.{KeyCounts, alike, count_in, key_cmp}
use Rattle.open_instances.specs.Meeting.{Loses, Meets, StaysLooked}
use Rattle.open_instances.specs.Noted as noted
use Rattle.open_instances.specs.Noted.{NotedKeys}
use Rattle.open_instances.specs.declared.kept.Kept.{Kept}
use Rattle.open_instances.proofs.KeyLemmas.{alike_itself, alike_same}
use Rattle.open_instances.proofs.LeavingLemmas.{neither}

-- ---- one key changes

-- what is kept of a key is the same
abbrev SameOf : Kept → Kept → MatchKey → Type 0
SameOf old new q = (count_in new.counts q ≡ count_in old.counts q) × (map.get key_cmp new.free q ≡ map.get key_cmp old.free q) × (set.contains key_cmp new.gone q ≡ set.contains key_cmp old.gone q)

same_looked : (old new : Kept) (q : MatchKey) → SameOf old new q → (instances : List Instance) → IsLookedIn instances old q → IsLookedIn instances new q
same_looked old new q same instances was = record {
  found = was.found;
  is = was.is;
  open_is = same.1 ∙ was.open_is ∙ ap (λ n. open_of (nat_lt 0 n) was.found) (sym same.0);
  gone_is = same.2 ∙ was.gone_is ∙ ap (λ n. gone_of (nat_lt 0 n) was.found) (sym same.0);
}

module _ (old new : Kept) (key : MatchKey) (others : (q : MatchKey) → alike key q ≡ false → SameOf old new q) where
  -- of a noted key nothing is said
  noted_stays : ((q : MatchKey) → noted.contains key_cmp new.touched q ≡ (alike key q || noted.contains key_cmp old.touched q)) → StaysLooked old new
  noted_stays grown instances was q h =
      let apart = neither (alike key q) (noted.contains key_cmp old.touched q) (sym (grown q) ∙ h) in
      same_looked old new q (others q apart.0) instances (was q apart.1)

  settled_stays : new.touched ≡ old.touched → ((instances : List Instance) → IsLookedIn instances old key → IsLookedIn instances new key) → StaysLooked old new
  settled_stays same own instances was q h = by (alike key q) refl
    where
      before : IsLookedIn instances old q
      before = was q (ap (λ (keys : NotedKeys). noted.contains key_cmp keys q) (sym same) ∙ h)

      by : (b : Bool) → alike key q ≡ b → IsLookedIn instances new q
      by true e = (let one = alike_same key q e in subst (IsLookedIn instances new) one (own instances (subst (IsLookedIn instances old) (sym one) before)))
      by false e = same_looked old new q (others q e) instances before

-- ---- a firing comes

module _ (old : Kept) (counts : KeyCounts) (free : BTreeMap MatchKey Instance) (key : MatchKey) (taken : (q : MatchKey) → map.get key_cmp free q ≡ cond (alike key q) None (map.get key_cmp old.free q))
    (raised : (q : MatchKey) → count_in counts q ≡ cond (alike key q) (count_in old.counts q + 1) (count_in old.counts q)) where
  others_met : (q : MatchKey) → alike key q ≡ false → SameOf old (record old { counts = counts; free = free }) q
  others_met q e = (
    raised q ∙ ap (λ b. cond b (count_in old.counts q + 1) (count_in old.counts q)) e,
    taken q ∙ ap (λ b. cond b None (map.get key_cmp old.free q)) e,
    refl,
  )

  is_live : nat_lt 0 (count_in counts key) ≡ true
  is_live = ap (nat_lt 0) (raised key ∙ ap (λ b. cond b (count_in old.counts key + 1) (count_in old.counts key)) (alike_itself key)) ∙ positive (count_in old.counts key)
    where
      positive : (n : ℕ) → nat_lt 0 (n + 1) ≡ true
      positive n = grind arith

  pub meets_open : is_some (map.get key_cmp old.free key) ≡ true → Meets key old (record old { counts = counts; free = free })
  meets_open was_open = record {
    stays = settled_stays old (record old { counts = counts; free = free }) key others_met refl own;
    counted = raised;
  }
    where
      by : (live : Bool) (found : Option Instance) → is_some (open_of live found) ≡ true → gone_of live found ≡ gone_of true found
      by true found h = absurd (cc)
      by false None h = absurd (cc)
      by false (Some i) h = refl

      own : (instances : List Instance) → IsLookedIn instances old key → IsLookedIn instances (record old { counts = counts; free = free }) key
      own instances w = record {
        found = w.found;
        is = w.is;
        open_is = taken key ∙ ap (λ b. cond b None (map.get key_cmp old.free key)) (alike_itself key) ∙ ap (λ b. open_of b w.found) (sym is_live);
        gone_is = w.gone_is ∙ by (nat_lt 0 (count_in old.counts key)) w.found (ap is_some (sym w.open_is) ∙ was_open) ∙ ap (λ b. gone_of b w.found) (sym is_live);
      }

  pub meets_noted : (touched : NotedKeys) → ((q : MatchKey) → noted.contains key_cmp touched q ≡ (alike key q || noted.contains key_cmp old.touched q)) → Meets key old (record old { counts = counts; free = free; touched = touched })
  meets_noted touched grown = record {
    stays = noted_stays old (record old { counts = counts; free = free; touched = touched }) key others_met grown;
    counted = raised;
  }

-- ---- a firing goes

module _ (old : Kept) (counts : KeyCounts) (key : MatchKey) (lowered : (q : MatchKey) → count_in counts q ≡ cond (alike key q) (count_in old.counts q - 1) (count_in old.counts q)) where
  own_lowered : count_in counts key ≡ count_in old.counts key - 1
  own_lowered = lowered key ∙ ap (λ b. cond b (count_in old.counts key - 1) (count_in old.counts key)) (alike_itself key)

  others_lowered : (q : MatchKey) → alike key q ≡ false → count_in counts q ≡ count_in old.counts q
  others_lowered q e = lowered q ∙ ap (λ b. cond b (count_in old.counts q - 1) (count_in old.counts q)) e

  -- another is left
  pub loses_one : nat_lt 1 (count_in old.counts key) ≡ true → Loses key old (record old { counts = counts })
  loses_one more = record {
    stays = settled_stays old (record old { counts = counts }) key (λ q e. (others_lowered q e, refl, refl)) refl own;
    counted = lowered;
  }
    where
      live_as : (n : ℕ) → nat_lt 1 n ≡ true → nat_lt 0 n ≡ nat_lt 0 (n - 1)
      live_as n h = grind arith

      same : nat_lt 0 (count_in old.counts key) ≡ nat_lt 0 (count_in counts key)
      same = live_as (count_in old.counts key) more ∙ ap (nat_lt 0) (sym own_lowered)

      own : (instances : List Instance) → IsLookedIn instances old key → IsLookedIn instances (record old { counts = counts }) key
      own instances w = record {
        found = w.found;
        is = w.is;
        open_is = w.open_is ∙ ap (λ b. open_of b w.found) same;
        gone_is = w.gone_is ∙ ap (λ b. gone_of b w.found) same;
      }

  module _ (gone : BTreeSet MatchKey) (taken : (q : MatchKey) → set.contains key_cmp gone q ≡ cond (alike key q) false (set.contains key_cmp old.gone q)) where
    others_lost : (q : MatchKey) → alike key q ≡ false → SameOf old (record old { counts = counts; gone = gone }) q
    others_lost q e = (others_lowered q e, refl, taken q ∙ ap (λ b. cond b false (set.contains key_cmp old.gone q)) e)

    -- the last goes, and its instance was not in the conflict set
    pub loses_gone : nat_lt 1 (count_in old.counts key) ≡ false → set.contains key_cmp old.gone key ≡ true → Loses key old (record old { counts = counts; gone = gone })
    loses_gone last there = record {
      stays = settled_stays old (record old { counts = counts; gone = gone }) key others_lost refl own;
      counted = lowered;
    }
      where
        none_left : (n : ℕ) → nat_lt 1 n ≡ false → nat_lt 0 (n - 1) ≡ false
        none_left n h = grind arith

        unlive : nat_lt 0 (count_in counts key) ≡ false
        unlive = ap (nat_lt 0) own_lowered ∙ none_left (count_in old.counts key) last

        by : (live : Bool) (found : Option Instance) → gone_of live found ≡ true → open_of live found ≡ open_of false found
        by true None h = refl
        by true (Some i) h = absurd (cc)
        by false found h = absurd (cc)

        own : (instances : List Instance) → IsLookedIn instances old key → IsLookedIn instances (record old { counts = counts; gone = gone }) key
        own instances w = record {
          found = w.found;
          is = w.is;
          open_is = w.open_is ∙ by (nat_lt 0 (count_in old.counts key)) w.found (sym w.gone_is ∙ there) ∙ ap (λ b. open_of b w.found) (sym unlive);
          gone_is = taken key ∙ ap (λ b. cond b false (set.contains key_cmp old.gone key)) (alike_itself key) ∙ ap (λ b. gone_of b w.found) (sym unlive);
        }

    pub loses_noted : (touched : NotedKeys) → ((q : MatchKey) → noted.contains key_cmp touched q ≡ (alike key q || noted.contains key_cmp old.touched q)) → Loses key old (record old { counts = counts; gone = gone; touched = touched })
    loses_noted touched grown = record {
      stays = noted_stays old (record old { counts = counts; gone = gone; touched = touched }) key others_lost grown;
      counted = lowered;
    }
