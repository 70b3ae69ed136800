-- Instances to fire, with the rules that they are of.
use Rattle.std.specs.Prelude.{◌≡◌, ℕ, ◌<◌, List, [], ◌∷◌, map, flat_map, filter, length}
use Rattle.soar_rule.specs.Variables.{bound_variables}
use Rattle.soar_wm.specs.declared.element.Element.{Element}
use Rattle.defs_match.specs.Contents.{is_numbered}
use Rattle.defs_match.specs.Rules.{RuleOf}
use Rattle.defs_match.specs.declared.instance.Instance.{Instance}
use Rattle.defs_soar.specs.Pending.{Firable, Work as WorkOf, firable_of}
use Rattle.outstanding.specs.Living.{live_seen}
use Rattle.pending_work.specs.declared.work.Work.{Work}

-- each number is below all that come after it
abbrev pub IsBelowRules : ℕ → List RuleOf → Type 0
IsBelowRules number [] = Unit {0}
IsBelowRules number (rule ∷ rules) = (number < rule.number) × IsBelowRules number rules

abbrev pub AreNumbered : List RuleOf → Type 0
AreNumbered [] = Unit {0}
AreNumbered (rule ∷ rules) = IsBelowRules rule.number rules × AreNumbered rules

-- the rule of a number, where it is there
abbrev pub rules_of : List RuleOf → ℕ → List RuleOf
rules_of rules number = filter (is_numbered number) rules

-- the instance with its rule, its bindings and its elements
abbrev pub firables_for : List RuleOf → List Element → Instance → List Firable
firables_for rules elements i = map (λ rule. firable_of elements rule i) (rules_of rules i.rule)

-- what is to be retracted as it is listed, and the instances of what is to be fired
pub record IsPending (rules : List RuleOf) (elements : List Element) (work : Work) (w : WorkOf) : Type 0 where
  pub retracted_are : map live_seen work.retracted ≡ w.retracted
  pub fired_are : flat_map (firables_for rules elements) work.fired ≡ w.fired

-- one symbol for each variable that the rule's conditions bind
abbrev pub IsBoundBy : Instance → List RuleOf → Type 0
IsBoundBy i [] = Unit {0}
IsBoundBy i (rule ∷ rules) = (length i.binds ≡ length (bound_variables rule.production.conditions)) × IsBoundBy i rules

-- each instance is of one of the rules, and has its bindings
pub record IsInstance (rules : List RuleOf) (i : Instance) : Type 0 where
  pub one : length (rules_of rules i.rule) ≡ 1
  pub bound : IsBoundBy i (rules_of rules i.rule)

abbrev pub AreBound : List RuleOf → List Instance → Type 0
AreBound rules [] = Unit {0}
AreBound rules (i ∷ instances) = IsInstance rules i × AreBound rules instances
