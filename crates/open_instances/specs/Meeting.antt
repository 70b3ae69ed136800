-- What a live firing that comes or goes makes of what is kept.
use Rattle.std.specs.Prelude.{◌≡◌, ◌+◌, ◌-◌, List, if◌then◌else◌}
use Rattle.defs_match.specs.declared.instance.Instance.{Instance}
use Rattle.match_changes.specs.declared.key.MatchKey.{MatchKey}
use Rattle.open_instances.specs.Keeping.{AreLooked}
use Rattle.open_instances.specs.Keys.{alike, count_in}
use Rattle.open_instances.specs.declared.kept.Kept.{Kept}

-- what was looked at stays so
abbrev pub StaysLooked : Kept → Kept → Type 0
StaysLooked old new = (instances : List Instance) → AreLooked instances old → AreLooked instances new

-- a firing of a key comes
pub record Meets (key : MatchKey) (old new : Kept) : Type 0 where
  pub stays : StaysLooked old new
  pub counted : (q : MatchKey) → count_in new.counts q ≡ (if alike key q then count_in old.counts q + 1 else count_in old.counts q)

-- a firing of a key goes
pub record Loses (key : MatchKey) (old new : Kept) : Type 0 where
  pub stays : StaysLooked old new
  pub counted : (q : MatchKey) → count_in new.counts q ≡ (if alike key q then count_in old.counts q - 1 else count_in old.counts q)
