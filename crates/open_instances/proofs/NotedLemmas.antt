-- Keys that are noted, one more and one less.
use Rattle.std.proofs.Common.{◌≡◌, refl, ap, ◌∙◌, subst, Bool, true, false, cond, ◌||◌}
use Rattle.std.specs.HashSet as table
use Rattle.match_changes.specs.declared.key.MatchKey.{MatchKey}
use Rattle.open_instances.specs.Keys.{alike, key_cmp, same_key}
use Rattle.open_instances.specs.Noted as noted
use Rattle.open_instances.specs.Noted.{NotedKeys}
use Rattle.open_instances.proofs.CountLemmas.{as_compared}

pub found_as_noted : (keys : NotedKeys) (q : MatchKey) → table.contains same_key keys q ≡ noted.contains key_cmp keys q
found_as_noted keys q = ap (λ (same : MatchKey → MatchKey → Bool). table.contains same keys q) as_compared

module _ (old new : NotedKeys) (key : MatchKey) where
  pub added : ((q : MatchKey) → table.contains same_key new q ≡ cond (same_key key q) true (table.contains same_key old q))
      → (q : MatchKey) → noted.contains key_cmp new q ≡ (alike key q || noted.contains key_cmp old q)
  added updates q = compared ∙ by (alike key q)
    where
      compared : noted.contains key_cmp new q ≡ cond (alike key q) true (noted.contains key_cmp old q)
      compared = subst (λ (same : MatchKey → MatchKey → Bool). table.contains same new q ≡ cond (same key q) true (table.contains same old q)) as_compared (updates q)

      by : (b : Bool) → cond b true (noted.contains key_cmp old q) ≡ (b || noted.contains key_cmp old q)
      by true = refl
      by false = refl

  pub others_stay : ((q : MatchKey) → same_key key q ≡ false → table.contains same_key new q ≡ table.contains same_key old q)
      → (q : MatchKey) → alike key q ≡ false → noted.contains key_cmp new q ≡ noted.contains key_cmp old q
  others_stay stay = subst (λ (same : MatchKey → MatchKey → Bool). (q : MatchKey) → same key q ≡ false → table.contains same new q ≡ table.contains same old q) as_compared stay
