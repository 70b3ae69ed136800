-- Productions as plain data, which definitions make and contracts see.
use Rattle.std.specs.Prelude.{ℕ, List, [], ◌∷◌, map, Option}
use Rattle.soar_sym.specs.declared.symbol.Sym.{Sym}
use Rattle.soar_rule.specs.declared.cond.Atom.{Atom}
use Rattle.soar_rule.specs.declared.action.Func.{Func}
use Rattle.soar_rule.specs.declared.action.Value.{Value, fold-Value}
use Rattle.soar_rule.specs.declared.action.Value.TheOpen.{Value-F, Atom as Leaf, Call}
use Rattle.soar_rule.specs.declared.action.Pref.{Pref}
use Rattle.soar_rule.specs.declared.action.Pref.TheVariants as pref
use Rattle.soar_rule.specs.declared.action.Action.{Action}
use Rattle.soar_rule.specs.declared.action.Action.TheVariants as action
use Rattle.soar_rule.specs.declared.production.Kind.{Kind}
use Rattle.soar_rule.specs.declared.production.Support.{Support}
use Rattle.soar_rule.specs.declared.production.Production.{Production}
use Rattle.soar_rule.specs.Conditions.{Conditions, conditions}

mutual
  -- a constant, a variable, or a call
  pub data ValueOf : Type 0 where
    atom_value : Atom → ValueOf
    call_value : Func → ValuesOf → ValueOf

  pub data ValuesOf : Type 0 where
    no_values : ValuesOf
    value_and : ValueOf → ValuesOf → ValuesOf

abbrev pub values_of : List ValueOf → ValuesOf
values_of [] = no_values
values_of (v ∷ vs) = value_and v (values_of vs)

-- a preference, with its referent where it has one
pub data PreferenceOf : Type 0 where
  accepts rejects requires_it prohibits is_best is_worst is_indifferent : PreferenceOf
  is_better_than is_worse_than is_indifferent_to : ValueOf → PreferenceOf

pub data ActionOf : Type 0 where
  makes : Atom → ValueOf → ValueOf → PreferenceOf → ActionOf  -- identifier, attribute, value
  writes : List ValueOf → ActionOf
  halts : ActionOf

pub record ProductionOf : Type 0 where
  pub name : Sym
  pub doc : Option (List ℕ)
  pub kind : Kind
  pub support : Support
  pub vars : List Sym
  pub conditions : Conditions
  pub actions : List ActionOf

-- ---- the code's types as plain data

-- one value, with what a call's values are seen as in their places
abbrev pub value_step : Value-F ValueOf → ValueOf
value_step (Leaf a) = atom_value a
value_step (Call f values) = call_value f (values_of values)

abbrev pub value_seen : Value → ValueOf
value_seen = fold-Value ValueOf value_step

abbrev pub preference_seen : Pref → PreferenceOf
preference_seen pref.Accept = accepts
preference_seen pref.Reject = rejects
preference_seen pref.Require = requires_it
preference_seen pref.Prohibit = prohibits
preference_seen (pref.Better v) = is_better_than (value_seen v)
preference_seen (pref.Worse v) = is_worse_than (value_seen v)
preference_seen pref.Best = is_best
preference_seen pref.Worst = is_worst
preference_seen pref.Indifferent = is_indifferent
preference_seen (pref.IndifferentTo v) = is_indifferent_to (value_seen v)

abbrev pub action_seen : Action → ActionOf
action_seen (action.Make id attr value p) = makes id (value_seen attr) (value_seen value) (preference_seen p)
action_seen (action.Write values) = writes (map value_seen values)
action_seen action.Halt = halts

abbrev pub production_seen : Production → ProductionOf
production_seen p = record {
  name = p.name;
  doc = p.doc;
  kind = p.kind;
  support = p.support;
  vars = p.vars;
  conditions = conditions p.conds;
  actions = map action_seen p.actions;
}
