-- A rule goes, and nothing of it is kept.
use Rattle.std.proofs.Common.{◌≡◌, refl, sym, ap, ap₂, ◌∙◌, Bool, true, false, cond, ◌||◌, ◌&&◌, not, ◌==◌, eqb-true, eq-eqb, nat_lt, ℕ, List, [], ◌∷◌, Option, Some, None, unwrap_or}
use Rattle.std.specs.BTreeMap as map
use Rattle.std.specs.BTreeSet as set
use Rattle.std.specs.HashMap as table
use Rattle.std.specs.List.{list_any}
use Rattle.std.specs.Map.{keys_of, lookup}
use Rattle.defs_match.specs.declared.instance.Instance.{Instance}
use Rattle.match_changes.specs.Told.{IsTheOne}
use Rattle.match_changes.specs.declared.key.MatchKey.{MatchKey}
use Rattle.open_instances.specs.Keeping.{AreLooked, IsLookedIn, LosesRule, gone_of, live_test, open_of, open_test}
use Rattle.open_instances.specs.Keys.{alike, count_in, key_cmp}
use Rattle.open_instances.specs.Noted as noted
use Rattle.open_instances.specs.declared.kept.Kept.{Kept}
use Rattle.open_instances.proofs.KeyLemmas.{alike_same}

pub neither : (a b : Bool) → (a || b) ≡ false → (a ≡ false) × (b ≡ false)
neither true b h = absurd (cc)
neither false b h = (refl, h)

-- no key passes the test, so one that would is not there
none_found : {X : Type 0} (test : MatchKey → Bool) (q : MatchKey) → test q ≡ true → (es : List (MatchKey × X)) → list_any test (keys_of es) ≡ false → lookup (λ k. alike q k) es ≡ None
none_found test q holds [] h = refl
none_found test q holds (e ∷ es) h = by (alike q e.0) refl (none_found test q holds es (neither (test e.0) (list_any test (keys_of es)) h).1)
  where
    by : (b : Bool) → alike q e.0 ≡ b → lookup (λ k. alike q k) es ≡ None → cond b (Some e.1) (lookup (λ k. alike q k) es) ≡ None
    by true is deep = (let bad : true ≡ false = sym holds ∙ ap test (alike_same q e.0 is) ∙ (neither (test e.0) (list_any test (keys_of es)) h).0 in absurd (cc))
    by false is deep = deep

open_none : (live : Bool) → None ≡ open_of live None
open_none true = refl
open_none false = refl

module _ (kept : Kept) (number : ℕ) where
  pub leaves : list_any (open_test kept number) (map.keys kept.free) ≡ false → list_any (live_test kept number) (table.keys kept.counts) ≡ false
      → (before after : List Instance) → LosesRule before after number → AreLooked before kept → AreLooked after kept
  leaves open_free live_free before after loses was = looked
    where
      own : (q : MatchKey) → (q.rule == number) ≡ true → noted.contains key_cmp kept.touched q ≡ false → IsLookedIn before kept q → IsLookedIn after kept q
      own q n h w = record {
        found = None;
        is = λ i k e. ((loses i).0 k).1 (ap (λ (r : MatchKey). r.rule) e ∙ eqb-true q.rule number n);
        open_is = none_found (open_test kept number) q (ap₂ (λ a b. a && not b) n h) kept.free.entries open_free ∙ open_none (nat_lt 0 (count_in kept.counts q));
        gone_is = gone (set.contains key_cmp kept.gone q) (nat_lt 0 (count_in kept.counts q)) refl refl w.gone_is;
      }
        where
          gone : (g live : Bool) → set.contains key_cmp kept.gone q ≡ g → nat_lt 0 (count_in kept.counts q) ≡ live → g ≡ gone_of live w.found → g ≡ gone_of live None
          gone true true g l e = refl
          gone false true g l e =
              let bad : true ≡ false =
              sym l ∙ ap (λ o. nat_lt 0 (unwrap_or o 0)) (none_found (live_test kept number) q (ap₂ (λ a b. a && b) n (ap₂ (λ a b. not a && not b) g h)) kept.counts.entries live_free) in
              absurd (cc)
          gone g false _ l e = e

      apart : (q : MatchKey) → (q.rule == number) ≡ false → (found : Option Instance) → IsTheOne before q found → IsTheOne after q found
      apart q n None one = λ i k e. one i ((loses i).0 k).0 e
      apart q n (Some i) one = (
        (loses i).1 (one.0, (λ r. (let bad : true ≡ false = sym (eq-eqb q.rule number (ap (λ (k : MatchKey). k.rule) (sym one.1) ∙ r)) ∙ n in cc))),
        one.1,
      )

      looked : AreLooked after kept
      looked q h = by (q.rule == number) refl (was q h)
        where
          by : (b : Bool) → (q.rule == number) ≡ b → IsLookedIn before kept q → IsLookedIn after kept q
          by true n w = own q n h w
          by false n w = record { found = w.found; is = apart q n w.found w.is; open_is = w.open_is; gone_is = w.gone_is }
