-- Tests of equality of conditions and actions, which compute.
use Rattle.std.specs.Prelude.{ℕ, Bool, true, false, ◌&&◌, ◌==◌, List, [], ◌∷◌}
use Rattle.soar_sym.specs.Equality.{symbol_eq, mark_eq}
use Rattle.soar_rule.specs.declared.action.Func.{Func}
use Rattle.soar_rule.specs.declared.action.Func.TheVariants as func
use Rattle.soar_rule.specs.declared.cond.Atom.{Atom}
use Rattle.soar_rule.specs.declared.cond.Atom.TheVariants.{Const, Var}
use Rattle.soar_rule.specs.declared.cond.Relation.{Relation}
use Rattle.soar_rule.specs.declared.cond.Relation.TheVariants.{Differ, Less, Greater, AtMost, AtLeast, SameKind}
use Rattle.soar_rule.specs.declared.cond.Test.{Test}
use Rattle.soar_rule.specs.declared.cond.Test.TheVariants.{Plain, Rel, OneOf}
use Rattle.soar_rule.specs.declared.cond.Field.{Field}
use Rattle.soar_rule.specs.declared.cond.Pattern.{Pattern}
use Rattle.soar_rule.specs.declared.production.Support.{Support}
use Rattle.soar_rule.specs.declared.production.Support.TheVariants as support
use Rattle.soar_rule.specs.Conditions.{Condition, positive, negated, conjunctive, Conditions, no_more, condition_and}
use Rattle.soar_rule.specs.Productions.{ValueOf, atom_value, call_value, ValuesOf, no_values, value_and, PreferenceOf, accepts, rejects, requires_it, prohibits, is_best, is_worst, is_indifferent, is_better_than, is_worse_than, is_indifferent_to, ActionOf, makes, writes, halts, ProductionOf}

abbrev pub list_eq : {A : Type 0} → (A → A → Bool) → List A → List A → Bool
list_eq same [] [] = true
list_eq same (x ∷ xs) (y ∷ ys) = same x y && list_eq same xs ys
list_eq same [] (y ∷ ys) = false
list_eq same (x ∷ xs) [] = false

abbrev pub atom_eq : Atom → Atom → Bool
atom_eq (Const s) (Const t) = symbol_eq s t
atom_eq (Var v) (Var w) = v == w
atom_eq a b = false

-- the place of a relation in the row of them
abbrev pub relation_place : Relation → ℕ
relation_place Differ = 0
relation_place Less = 1
relation_place Greater = 2
relation_place AtMost = 3
relation_place AtLeast = 4
relation_place SameKind = 5

abbrev pub relation_eq : Relation → Relation → Bool
relation_eq r q = relation_place r == relation_place q

abbrev pub test_eq : Test → Test → Bool
test_eq (Plain a) (Plain b) = atom_eq a b
test_eq (Rel r a) (Rel q b) = relation_eq r q && atom_eq a b
test_eq (OneOf xs) (OneOf ys) = list_eq symbol_eq xs ys
test_eq t u = false

abbrev pub field_eq : Field → Field → Bool
field_eq f g = list_eq test_eq f.tests g.tests

abbrev pub pattern_eq : Pattern → Pattern → Bool
pattern_eq p q = mark_eq p.state q.state && (field_eq p.id q.id && (field_eq p.attr q.attr && (field_eq p.value q.value && mark_eq p.accept q.accept)))

abbrev mutual
  pub condition_eq : Condition → Condition → Bool
  condition_eq (positive p) (positive q) = pattern_eq p q
  condition_eq (negated p) (negated q) = pattern_eq p q
  condition_eq (conjunctive cs) (conjunctive ds) = conditions_eq cs ds
  condition_eq c d = false

  pub conditions_eq : Conditions → Conditions → Bool
  conditions_eq no_more no_more = true
  conditions_eq (condition_and c cs) (condition_and d ds) = condition_eq c d && conditions_eq cs ds
  conditions_eq cs ds = false

-- the place of a function in the row of them
abbrev pub function_place : Func → ℕ
function_place func.Plus = 0
function_place func.Times = 1
function_place func.Minus = 2
function_place func.Div = 3
function_place func.Mod = 4
function_place func.Abs = 5
function_place func.Min = 6
function_place func.Max = 7
function_place func.Concat = 8
function_place func.IfEq = 9
function_place func.StrLen = 10
function_place func.Crlf = 11

abbrev mutual
  pub value_eq : ValueOf → ValueOf → Bool
  value_eq (atom_value a) (atom_value b) = atom_eq a b
  value_eq (call_value f xs) (call_value g ys) = (function_place f == function_place g) && values_eq xs ys
  value_eq u v = false

  pub values_eq : ValuesOf → ValuesOf → Bool
  values_eq no_values no_values = true
  values_eq (value_and u us) (value_and v vs) = value_eq u v && values_eq us vs
  values_eq us vs = false

abbrev pub preference_eq : PreferenceOf → PreferenceOf → Bool
preference_eq accepts accepts = true
preference_eq rejects rejects = true
preference_eq requires_it requires_it = true
preference_eq prohibits prohibits = true
preference_eq is_best is_best = true
preference_eq is_worst is_worst = true
preference_eq is_indifferent is_indifferent = true
preference_eq (is_better_than u) (is_better_than v) = value_eq u v
preference_eq (is_worse_than u) (is_worse_than v) = value_eq u v
preference_eq (is_indifferent_to u) (is_indifferent_to v) = value_eq u v
preference_eq p q = false

abbrev pub action_eq : ActionOf → ActionOf → Bool
action_eq (makes id attr value p) (makes id' attr' value' q) = atom_eq id id' && (value_eq attr attr' && (value_eq value value' && preference_eq p q))
action_eq (writes xs) (writes ys) = list_eq value_eq xs ys
action_eq halts halts = true
action_eq a b = false

abbrev pub support_place : Support → ℕ
support_place support.Unset = 0
support_place support.Operator = 1
support_place support.Instance = 2

-- the same support, conditions and actions
abbrev pub same_body : ProductionOf → ProductionOf → Bool
same_body p q = (support_place p.support == support_place q.support) && (conditions_eq p.conditions q.conditions && list_eq action_eq p.actions q.actions)
