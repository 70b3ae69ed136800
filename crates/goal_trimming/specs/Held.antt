-- What trimming may take away, and trimming by the tags on which each goal depends.
use Rattle.std.specs.Prelude.{ℕ, suc, ◌-◌, List, map, take, length, Option, Some, None}
use Rattle.soar_sym.specs.declared.symbol.Triple.{Triple}
use Rattle.soar_rule.specs.Repeat.{Turn, ends, goes_on, turns}
use Rattle.soar_wm.specs.declared.element.Element.{Element}
use Rattle.defs_soar.specs.declared.goal.Goal.{Goal}
use Rattle.defs_soar.specs.declared.preference.Preference.{Preference}
use Rattle.defs_soar.specs.Agents.{LiveFiring}
use Rattle.defs_soar.specs.Preferences.{without_firings}
use Rattle.defs_soar.specs.Settling.{Supports, settled, kept_triples}
use Rattle.defs_soar.specs.Trimming.{numbers_of}
use Rattle.soar_prefs.specs.Memory.{PreferenceMemory}
use Rattle.live_firings.specs.declared.live.Live.{Live}
use Rattle.goal_trimming.specs.Broken.{highest_broken_by}
use Rattle.live_firings.specs.Living.{live_above, live_from, live_seen}

-- the rows of preference memory, and how many there may be
pub record Room : Type 0 where
  pub rows : List Preference
  pub limit : ℕ

abbrev pub room_of : PreferenceMemory → Room
room_of p = record { rows = p.rows; limit = p.limit }

-- the goals, the tags on which each below the top depends, preference memory, the inputs and the live firings
pub record Held : Type 0 where
  pub goals : List Goal
  pub depends : List (List ℕ)
  pub prefs : Room
  pub inputs : List Triple
  pub live : List LiveFiring

abbrev pub held_by : List Goal → List (List ℕ) → PreferenceMemory → List Triple → List Live → Held
held_by goals depends prefs inputs live = record { goals = goals; depends = depends; prefs = room_of prefs; inputs = inputs; live = map live_seen live }

abbrev pub supports_held : Held → Supports
supports_held h = record { rows = h.prefs.rows; inputs = h.inputs }

-- the triples that are kept with it
abbrev pub kept_held : Held → List Triple
kept_held h = kept_triples h.goals (supports_held h)

abbrev pub with_supports_held : Held → Supports → Held
with_supports_held h s = record h { prefs = record h.prefs { rows = s.rows }; inputs = s.inputs }

abbrev pub settled_held : Held → Held
settled_held h = with_supports_held h (settled h.goals (supports_held h))

-- with the goal of a depth go all deeper ones, their tags, their firings, and the instance-supported rows of these
abbrev pub without_goals_held : ℕ → Held → Held
without_goals_held depth h = record {
  goals = take (depth - 1) h.goals;
  depends = take (depth - 2) h.depends;
  prefs = record h.prefs { rows = without_firings h.prefs.rows (numbers_of (live_from depth h.live)) };
  inputs = h.inputs;
  live = live_above depth h.live;
}

abbrev pub without_broken_held : Held → Option ℕ → Turn Held
without_broken_held h None = ends h
without_broken_held h (Some depth) = goes_on (without_goals_held depth h)

-- settled, and without the highest goal that is broken; the top goal stays
abbrev pub one_trim_held : List Element → Held → Turn Held
one_trim_held elements h = let s = settled_held h in without_broken_held s (highest_broken_by s.depends elements (kept_held s) 2)

abbrev pub held_after : Turn Held → Held
held_after (ends h) = h
held_after (goes_on h) = h

-- until none is broken; each time but the last a goal goes
unfoldable pub trimmed_held : List Element → Held → Held
trimmed_held elements h = held_after (turns (suc (length h.goals)) (one_trim_held elements) h)
