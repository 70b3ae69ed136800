-- Firings as they are recorded: against goals, rows and elements from before their wave (Soar manual, chapter 4, backtracing).
use Rattle.std.specs.Prelude.{ℕ, Bool, List, map, Option}
use Rattle.soar_sym.specs.declared.symbol.Sym.{Sym}
use Rattle.soar_wm.specs.declared.element.Element.{Element}
use Rattle.soar_wm.specs.WorkingMemory.{triple_of}
use Rattle.defs_match.specs.Rules.{RuleOf}
use Rattle.defs_match.specs.declared.instance.Instance.{Instance}
use Rattle.defs_soar.specs.declared.firing.Used.{Used}
use Rattle.defs_soar.specs.declared.goal.Goal.{Goal}
use Rattle.defs_soar.specs.declared.preference.Preference.{Preference}
use Rattle.defs_soar.specs.declared.preference.Wish.{Wish}
use Rattle.defs_soar.specs.History.{FiringOf, Reach, firing_seen}
use Rattle.defs_soar.specs.Levels.{reaches}
use Rattle.defs_soar.specs.Pending.{Firable, depth_of, firable_of, is_of_operator_kind}
use Rattle.defs_soar.specs.Support.{goal_at_depth}
use Rattle.defs_soar.specs.Uses.{all_uses, elements_matched, uses_of}
use Rattle.defs_soar.specs.WaveAtHand.{Fresh}
use Rattle.firing_records.specs.declared.before.Before.{Before}
use Rattle.firing_records.specs.declared.outcome.Recorded.{Recorded}

-- what is there before a wave
pub record Standing : Type 0 where
  pub goals : List Goal
  pub rows : List Preference
  pub elements : List Element

-- what the goals reach by the elements
abbrev pub reach_of : Standing → Reach
reach_of s = record { goals = s.goals; reached = reaches s.goals (map triple_of s.elements) }

-- how a firing of this depth used an element
abbrev pub uses_before : Standing → ℕ → Element → List Used
uses_before s depth e = uses_of (reach_of s) s.rows depth e

-- how a firing of this depth used the elements of these tags
abbrev pub all_uses_before : Standing → ℕ → List ℕ → List Used
all_uses_before s depth tags = all_uses (reach_of s) s.rows depth (elements_matched s.elements tags)

-- the firing of a number and a depth; the goals among its symbols and what it made are given
abbrev pub firing_as : Standing → ℕ → RuleOf → Instance → ℕ → List Sym → List Wish → FiringOf
firing_as s depth rule i number goals made = record {
  number = number;
  name = rule.production.name;
  rule = rule;
  depth = depth;
  instance = i;
  goals = goals;
  used = all_uses_before s depth i.tags;
  made = made;
}

-- a firing with its match goal and its kind
pub record RecordedAs : Type 0 where
  pub firing : FiringOf
  pub goal : Option Sym
  pub operator_kind : Bool

abbrev pub recorded_as : List Sym → Standing → RuleOf → Instance → ℕ → List Wish → RecordedAs
recorded_as goals s rule i number made =
    let f : Firable = firable_of s.elements rule i in
    let depth = depth_of s.goals f in
    record {
      firing = firing_as s depth rule i number goals made;
      goal = goal_at_depth depth s.goals;
      operator_kind = is_of_operator_kind s.goals f;
    }

-- ---- the code's types as plain data

abbrev pub standing : Before → Standing
standing b = record { goals = b.goals.now; rows = b.prefs.now.rows; elements = b.memory.now.elements }

abbrev pub recorded_seen : Recorded → RecordedAs
recorded_seen r = record { firing = firing_seen r.firing; goal = r.goal; operator_kind = r.operator_kind }

-- ---- a firing of a wave, without what it dropped and wrote

abbrev pub fresh_seen : Fresh → RecordedAs
fresh_seen x = record { firing = x.firing; goal = x.goal; operator_kind = x.operator_kind }
