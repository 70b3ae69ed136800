-- What the firings of a wave add to what goals depend on (Soar manual, chapter 2, goal dependency sets).
use Rattle.std.specs.Prelude.{ℕ, suc, ◌≤◌, List, [], ◌∷◌, map, flat_map, filter}
use Rattle.soar_sym.specs.declared.symbol.Sym.{Sym}
use Rattle.soar_wm.specs.declared.element.Element.{Element}
use Rattle.soar_wm.specs.WorkingMemory.{triple_of}
use Rattle.defs_soar.specs.declared.goal.Goal.{Goal}
use Rattle.defs_soar.specs.declared.preference.Preference.{Preference}
use Rattle.defs_soar.specs.Dependencies.{counts_for, higher_grounds}
use Rattle.defs_soar.specs.History.{FiringOf, Reach, RecordedFiring, firing_seen}
use Rattle.defs_soar.specs.Laws.{IsIn}
use Rattle.defs_soar.specs.Levels.{reaches}
use Rattle.defs_soar.specs.Waves.{lasting_of}
use Rattle.firing_records.specs.declared.outcome.Recorded.{Recorded}
use Rattle.agent_laws.specs.Records.{AreRisingFrom}

-- what goals reach by elements
abbrev pub reach_over : List Goal → List Element → Reach
reach_over goals elements = record { goals = goals; reached = reaches goals (map triple_of elements) }

-- the firing of the history: with the operator-supported rows that it added, and the reach before its wave
abbrev pub past_by : Reach → List Preference → Recorded → RecordedFiring
past_by reach added r = record { firing = firing_seen r.firing; goal = r.goal; operator_kind = r.operator_kind; lasting = lasting_of added r.firing.number; before = reach }

-- the firings, as they join a record
abbrev pub firings_of : List Recorded → List FiringOf
firings_of recorded = map (λ r. firing_seen r.firing) recorded

-- ---- tags

-- the tags that past firings add to what a goal of this depth depends on, found among some firings
abbrev pub tags_found : List FiringOf → List RecordedFiring → Sym → ℕ → List ℕ
tags_found firings pasts goal depth = flat_map (higher_grounds firings depth) (filter (counts_for goal depth) pasts)

-- goal by goal, from a depth on
abbrev pub tags_found_from : List FiringOf → List RecordedFiring → ℕ → List Goal → List (List ℕ)
tags_found_from firings pasts depth [] = []
tags_found_from firings pasts depth (goal ∷ goals) = tags_found firings pasts goal.id depth ∷ tags_found_from firings pasts (suc depth) goals

-- ---- firings that may join a record

-- their numbers rise above one that those of the record do not pass
pub record CanJoin (kept new : List FiringOf) : Type 0 where
  pub last : ℕ
  pub kept_up_to : (f : FiringOf) → IsIn f kept → f.number ≤ last
  pub rising : AreRisingFrom last new
