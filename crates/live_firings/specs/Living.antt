-- Live firings as they are kept, and the goals from a depth on.
use Rattle.std.specs.Prelude.{◌≡◌, ℕ, ◌+◌, ◌==◌, not, nat_lt, List, map, filter}
use Rattle.std.specs.List.{list_any}
use Rattle.defs_soar.specs.Agents.{LiveFiring}
use Rattle.match_changes.specs.Told.{key_of}
use Rattle.match_changes.specs.declared.key.MatchKey.{MatchKey}
use Rattle.open_instances.specs.Keys.{times}
use Rattle.live_firings.specs.declared.live.Live.{Live}

-- the live firings in order of adding, and what they were when what came and went was told last
pub record Firings : Type 0 where
  pub list : List Live
  pub told : List Live

abbrev pub live_seen : Live → LiveFiring
live_seen l = record { number = l.number; name = l.name; depth = l.depth; instance = l.instance }

-- the firings of the goals above a depth
abbrev pub live_above : ℕ → List LiveFiring → List LiveFiring
live_above depth live = filter (λ l. nat_lt l.depth depth) live

-- the firings of the goals from a depth on
abbrev pub live_from : ℕ → List LiveFiring → List LiveFiring
live_from depth live = filter (λ l. not (nat_lt l.depth depth)) live

-- the firings that have none of these numbers
abbrev pub without_numbers : List ℕ → List Live → List Live
without_numbers numbers live = filter (λ l. not (list_any (λ number. number == l.number) numbers)) live

abbrev pub keys_of : List Live → List MatchKey
keys_of live = map (λ l. key_of l.instance) live

-- by the keys of what came and of what went the old list becomes the new one, but for the order
abbrev pub AreNews : List Live → List Live → List MatchKey → List MatchKey → Type 0
AreNews old new came gone = (q : MatchKey) → times q (keys_of old) + times q came ≡ times q (keys_of new) + times q gone
