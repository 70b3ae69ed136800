-- Firings as they are recorded, and explanations, as plain data.
use Rattle.std.specs.Prelude.{ℕ, Bool, List, map, Option}
use Rattle.soar_sym.specs.declared.symbol.Sym.{Sym}
use Rattle.defs_match.specs.Element.{Element}
use Rattle.defs_match.specs.Rules.{RuleOf, rule_seen}
use Rattle.defs_match.specs.declared.instance.Instance.{Instance}
use Rattle.defs_soar.specs.declared.chain.Chain.{Chain}
use Rattle.defs_soar.specs.declared.chain.Step.{Step}
use Rattle.defs_soar.specs.declared.chain.Step.TheVariants as step
use Rattle.defs_soar.specs.declared.firing.Firing.{Firing}
use Rattle.defs_soar.specs.declared.firing.Used.{Used}
use Rattle.defs_soar.specs.declared.goal.Goal.{Goal}
use Rattle.defs_soar.specs.declared.preference.Wish.{Wish}

-- a firing, with its rule, the depth of its match goal, the goals among its symbols, how it used its elements, and what it made
pub record FiringOf : Type 0 where
  pub number : ℕ
  pub name : Sym
  pub rule : RuleOf
  pub depth : ℕ
  pub instance : Instance
  pub goals : List Sym
  pub used : List Used
  pub made : List Wish

-- the goals and what each of them reached, from which levels are told
pub record Reach : Type 0 where
  pub goals : List Goal
  pub reached : List (List Sym)

-- a firing of the history: its match goal, its kind, the identifiers of the operator-supported rows that it added, and the reach before its wave
pub record RecordedFiring : Type 0 where
  pub firing : FiringOf
  pub goal : Option Sym
  pub operator_kind : Bool
  pub lasting : List Sym
  pub before : Reach

-- a step of an explanation; a number is the tag of the marked element that an item or a selected operator names
pub data StepOf : Type 0 where
  architecture_step : Element → StepOf
  item_step select_step : Element → ℕ → StepOf
  fire_step : FiringOf → StepOf

pub record ChainOf : Type 0 where
  pub grounds : List Element
  pub steps : List StepOf
  pub results : List Wish

-- ---- the code's types as plain data

abbrev pub firing_seen : Firing → FiringOf
firing_seen f = record {
  number = f.number;
  name = f.name;
  rule = rule_seen f.rule;
  depth = f.depth;
  instance = f.instance;
  goals = f.goals;
  used = f.used;
  made = f.made;
}

abbrev pub step_seen : Step → StepOf
step_seen (step.Architecture e) = architecture_step e
step_seen (step.Item e tag) = item_step e tag
step_seen (step.Select e tag) = select_step e tag
step_seen (step.Fire f) = fire_step (firing_seen f)

abbrev pub chain_seen : Chain → ChainOf
chain_seen c = record { grounds = c.grounds; steps = map step_seen c.steps; results = c.results }
