-- Counts by key, one more and one less.
use Rattle.std.proofs.Common.{◌≡◌, refl, ap, ◌∙◌, subst, Bool, true, false, cond, ℕ, ◌+◌, ◌-◌, ◌≤◌, Some, None, unwrap_or, arith}
use Rattle.std.specs.HashMap as table
use Rattle.match_changes.specs.contracts.key.MatchKeyOrd.TheImpl.Laws as laws
use Rattle.match_changes.specs.declared.key.MatchKey.{MatchKey}
use Rattle.open_instances.specs.Keys.{KeyCounts, alike, count_in, held_in, same_key}
use Rattle.open_instances.proofs.KeyLemmas.{alike_same}

-- keys that are the same compare equal, and no others do
pub as_compared : same_key ≡ alike
as_compared = λ i a b. laws.matches_eq-law a b i

pub held_as_counted : (counts : KeyCounts) (q : MatchKey) → held_in counts q ≡ count_in counts q
held_as_counted counts q = ap (λ (same : MatchKey → MatchKey → Bool). unwrap_or (table.get same counts q) 0) as_compared

module _ (old new : KeyCounts) (key : MatchKey) where
  pub raised : (count : ℕ) → count ≡ held_in old key + 1 → ((q : MatchKey) → table.get same_key new q ≡ cond (same_key key q) (Some count) (table.get same_key old q))
      → (q : MatchKey) → count_in new q ≡ cond (alike key q) (count_in old q + 1) (count_in old q)
  raised count one updates q = ap (λ o. unwrap_or o 0) compared ∙ by (alike key q) refl
    where
      compared : table.get_by (alike q) new ≡ cond (alike key q) (Some count) (table.get_by (alike q) old)
      compared = subst (λ (same : MatchKey → MatchKey → Bool). table.get same new q ≡ cond (same key q) (Some count) (table.get same old q)) as_compared (updates q)

      by : (b : Bool) → alike key q ≡ b → unwrap_or (cond b (Some count) (table.get_by (alike q) old)) 0 ≡ cond b (count_in old q + 1) (count_in old q)
      by true e = one ∙ ap (λ n. n + 1) (held_as_counted old key) ∙ ap (λ k. count_in old k + 1) (alike_same key q e)
      by false e = refl

  pub lowered : ((q : MatchKey) → held_in new q ≡ cond (same_key key q) (held_in old key - 1) (held_in old q))
      → (q : MatchKey) → count_in new q ≡ cond (alike key q) (count_in old q - 1) (count_in old q)
  lowered updates q = compared ∙ by (alike key q) refl
    where
      compared : count_in new q ≡ cond (alike key q) (count_in old key - 1) (count_in old q)
      compared =
          subst (λ (same : MatchKey → MatchKey → Bool). unwrap_or (table.get same new q) 0 ≡ cond (same key q) (unwrap_or (table.get same old key) 0 - 1) (unwrap_or (table.get same old q) 0))
          as_compared (updates q)

      by : (b : Bool) → alike key q ≡ b → cond b (count_in old key - 1) (count_in old q) ≡ cond b (count_in old q - 1) (count_in old q)
      by true e = ap (λ k. count_in old k - 1) (alike_same key q e)
      by false e = refl

  pub dropped : held_in old key ≤ 1 → ((q : MatchKey) → table.get same_key new q ≡ cond (same_key key q) None (table.get same_key old q))
      → (q : MatchKey) → count_in new q ≡ cond (alike key q) (count_in old q - 1) (count_in old q)
  dropped few updates = lowered (λ q. ap (λ o. unwrap_or o 0) (updates q) ∙ by q (same_key key q))
    where
      none : 0 ≡ held_in old key - 1
      none = omega (arith, few)

      by : (q : MatchKey) (b : Bool) → unwrap_or (cond b None (table.get same_key old q)) 0 ≡ cond b (held_in old key - 1) (held_in old q)
      by q true = none
      by q false = refl
