-- What is kept of a conflict set and of the live firings.
use Rattle.std.specs.Prelude.{◌≡◌, ◌≢◌, ◌↔◌, ℕ, Bool, false, ◌&&◌, ◌==◌, not, nat_lt, List, Option, None, is_some, if◌then◌else◌}
use Rattle.std.specs.BTreeMap as map
use Rattle.std.specs.BTreeSet as set
use Rattle.defs_match.specs.Laws.{IsIn}
use Rattle.defs_match.specs.declared.instance.Instance.{Instance}
use Rattle.match_changes.specs.Told.{IsTheOne}
use Rattle.match_changes.specs.declared.key.MatchKey.{MatchKey}
use Rattle.open_instances.specs.Keys.{KeyCounts, alike, count_in, key_cmp, times}
use Rattle.open_instances.specs.Noted as noted
use Rattle.open_instances.specs.declared.kept.Kept.{Kept}

-- what is open of a key: its instance, unless a live firing has it
abbrev pub open_of : Bool → Option Instance → Option Instance
open_of live found = if live then None else found

-- a live firing has the key, and the conflict set has no instance of it
abbrev pub gone_of : Bool → Option Instance → Bool
gone_of live found = live && not (is_some found)

-- what is kept of a key is so in the conflict set
pub record IsLooked (instances : List Instance) (live : Bool) (free : Option Instance) (gone : Bool) (key : MatchKey) : Type 0 where
  pub found : Option Instance
  pub is : IsTheOne instances key found
  pub open_is : free ≡ open_of live found
  pub gone_is : gone ≡ gone_of live found

abbrev pub IsLookedIn : List Instance → Kept → MatchKey → Type 0
IsLookedIn instances kept q = IsLooked instances (nat_lt 0 (count_in kept.counts q)) (map.get key_cmp kept.free q) (set.contains key_cmp kept.gone q) q

-- each key that is not to be looked at again
abbrev pub AreLooked : List Instance → Kept → Type 0
AreLooked instances kept = (q : MatchKey) → noted.contains key_cmp kept.touched q ≡ false → IsLookedIn instances kept q

-- the same, but for a key
abbrev pub AreLookedBut : MatchKey → List Instance → Kept → Type 0
AreLookedBut key instances kept = (q : MatchKey) → noted.contains key_cmp kept.touched q ≡ false → alike key q ≡ false → IsLookedIn instances kept q

abbrev pub Counts : KeyCounts → List MatchKey → Type 0
Counts counts keys = (q : MatchKey) → count_in counts q ≡ times q keys

-- unless all is to be compared anew
abbrev pub Fits : List Instance → Kept → Type 0
Fits instances kept = kept.stale ≡ false → AreLooked instances kept

-- the instances of a rule go, and no others
abbrev pub LosesRule : List Instance → List Instance → ℕ → Type 0
LosesRule before after number = (i : Instance) → IsIn i after ↔ (IsIn i before × (i.rule ≢ number))

-- a key of the rule that is not to be looked at again
abbrev pub open_test : Kept → ℕ → MatchKey → Bool
open_test kept number k = (k.rule == number) && not (noted.contains key_cmp kept.touched k)

-- one that is not gone either
abbrev pub live_test : Kept → ℕ → MatchKey → Bool
live_test kept number k = (k.rule == number) && (not (set.contains key_cmp kept.gone k) && not (noted.contains key_cmp kept.touched k))
