-- Faults that are told one after another.
use Rattle.std.proofs.Common.{◌≡◌, Option, None, Result, Ok, Err, sym, ap, subst, ◌∙◌}
use Rattle.soar_rule.specs.declared.fault.CheckFault.{CheckFault}
use Rattle.soar_rule.specs.declared.fault.CheckFault.TheVariants as faults
use Rattle.soar_rule.specs.declared.production.Production.{Production}
use Rattle.soar_rule.specs.Checked.{IsChecked}
use Rattle.soar_rule.specs.Checking.{Fault, fault_of, ordered, unless_fault}
use Rattle.soar_rule.specs.Conditions.{all_of}
use Rattle.soar_rule.specs.MatchOrder.{taken_in_order}
use Rattle.soar_rule.specs.Productions.{ProductionOf, production_seen}
use Rattle.rule_check.specs.Telling.{Tells}

ordered_is : (p : ProductionOf) (fault : Option Fault) → fault_of p (taken_in_order p.conditions) ≡ fault
    → ordered p ≡ unless_fault fault (record p { conditions = all_of (taken_in_order p.conditions).order })
unfolding ordered
ordered_is p fault is = ap (λ o. unless_fault o (record p { conditions = all_of (taken_in_order p.conditions).order })) is

pub checked_fault : (p : ProductionOf) (r : Result Production CheckFault) (e : CheckFault) → Tells {A = Unit {0}} (fault_of p (taken_in_order p.conditions)) (Err e) → r ≡ Err e → IsChecked p r
checked_fault p r e tells is = subst (IsChecked p) (sym is) (by e tells)
  where
    by : (e : CheckFault) → Tells {A = Unit {0}} (fault_of p (taken_in_order p.conditions)) (Err e) → IsChecked p (Err e)
    by faults.NoState tells = ordered_is p _ tells
    by (faults.Unbound v) tells = ordered_is p _ tells
    by (faults.Unconnected k) tells = ordered_is p _ tells
    by (faults.TooMany n) tells = ordered_is p _ tells
    by faults.TooDeep tells = ordered_is p _ tells
    by faults.BadPref tells = ordered_is p _ tells
    by faults.NoMemory tells = tt

pub checked_whole : (p : ProductionOf) (q : Production) → fault_of p (taken_in_order p.conditions) ≡ None
    → production_seen q ≡ record p { conditions = all_of (taken_in_order p.conditions).order } → ordered p ≡ Ok (production_seen q)
checked_whole p q none is = ordered_is p None none ∙ ap Ok (sym is)
