-- What the code keeps of a list of conditions while it takes them, and what the definition has for it.
use Rattle.std.specs.Prelude.{◌≡◌, ℕ, suc, ◌+◌, ◌<◌, Bool, true, false, List, [], ◌∷◌, map, length, slice_index_or, slice_set, Option, Some, None, if◌then◌else◌}
use Rattle.soar_rule.specs.declared.cond.Cond.{Cond}
use Rattle.soar_rule.specs.Conditions.{Condition, condition, Conditions}
use Rattle.soar_rule.specs.MatchOrder.{Readiness, is_ready, lacks, is_unlinked, or_else, waits_for, Taken, readiness, first_lack}
use Rattle.soar_rule.specs.Checking.{place_left}
use Rattle.soar_rule.specs.Variables.{variables_of_condition}
use Rattle.rule_check.specs.declared.level.Left.{Left}
use Rattle.rule_check.specs.declared.level.Level.{Level}
use Rattle.rule_check.specs.declared.level.Standing.{Standing}
use Rattle.rule_check.specs.declared.level.Standing.TheVariants as standing
use Rattle.rule_check.specs.declared.readiness.Readiness.{Readiness as Found}
use Rattle.rule_check.specs.declared.readiness.Readiness.TheVariants as found
use Rattle.rule_check.specs.Members.{members}

-- ---- one condition

abbrev pub readiness_seen : Found → Readiness
readiness_seen (found.Ready c) = is_ready (condition c)
readiness_seen (found.Waits v) = lacks v
readiness_seen (found.Lacks v) = lacks v
readiness_seen found.Unlinked = is_unlinked

-- what it lacks for good it lacks although it waits for nothing
abbrev pub Lasts : Condition → List ℕ → List ℕ → Found → Type 0
Lasts c outside bound (found.Ready d) = Unit {0}
Lasts c outside bound (found.Waits v) = Unit {0}
Lasts c outside bound (found.Lacks v) = waits_for outside bound (variables_of_condition c) ≡ None
Lasts c outside bound found.Unlinked = Unit {0}

-- what is known of a condition holds, and lasts
abbrev pub IsKnown : Condition → Bool → List ℕ → List ℕ → Standing → Type 0
IsKnown c inside outside bound standing.Open = Unit {0}
IsKnown c inside outside bound standing.Taken = Unit {0}
IsKnown c inside outside bound (standing.Lacks v) = (readiness c inside outside bound ≡ lacks v) × (waits_for outside bound (variables_of_condition c) ≡ None)

-- ---- a list of conditions

abbrev pub is_taken : Standing → Bool
is_taken standing.Open = false
is_taken standing.Taken = true
is_taken (standing.Lacks v) = false

abbrev pub standing_at : List Standing → ℕ → Standing
standing_at standings place = slice_index_or standings place standing.Open

-- how many of these marks are not set
abbrev pub open_count : List Bool → ℕ
open_count [] = 0
open_count (taken ∷ marks) = if taken then open_count marks else suc (open_count marks)

abbrev pub taken_seen : Level → Taken
taken_seen level = record { places = members (map is_taken level.standings); order = map condition level.conds; bound = members level.bound.marks }

-- what is known of each condition holds
pub record IsLevel (conds : List Cond) (inside : Bool) (outside : List ℕ) (level : Level) : Type 0 where
  pub whole : length level.standings ≡ length conds
  pub known : (place : ℕ) (c : Cond) → place < length conds → c ≡ slice_index_or conds place c → IsKnown (condition c) inside outside (members level.bound.marks) (standing_at level.standings place)

-- what was left lacks, from a place on
abbrev pub left_from : Conditions → Bool → List ℕ → ℕ → Taken → Left
left_from cs inside outside place t = record { positive = first_lack cs true inside outside place t; negation = first_lack cs false inside outside place t; place = place_left cs place t }

-- ---- what is noted

abbrev pub nothing_left : Left
nothing_left = record { positive = None; negation = None; place = None }

-- of two, what comes first
abbrev pub with_left : Left → Left → Left
with_left first later = record {
  positive = or_else first.positive later.positive;
  negation = or_else first.negation later.negation;
  place = or_else first.place later.place;
}

abbrev pub ready_of : Readiness → Option Condition
ready_of (is_ready c) = Some c
ready_of (lacks v) = None
ready_of is_unlinked = None

abbrev pub lack_of : Readiness → Option ℕ
lack_of (is_ready c) = None
lack_of (lacks v) = Some v
lack_of is_unlinked = None

-- of a condition that was left at a place, from 0
abbrev pub left_of : Bool → ℕ → Option ℕ → Left
left_of true place lack = record { positive = lack; negation = None; place = Some (place + 1) }
left_of false place lack = record { positive = None; negation = lack; place = None }

-- what lasts is noted
abbrev pub noted : List Standing → ℕ → Found → List Standing
noted standings place (found.Ready c) = standings
noted standings place (found.Waits v) = standings
noted standings place (found.Lacks v) = slice_set standings place (standing.Lacks v)
noted standings place found.Unlinked = standings
