-- What `check` answers of a production.
use Rattle.std.specs.Prelude.{◌≡◌, Result, Ok, Err}
use Rattle.soar_rule.specs.declared.fault.CheckFault.{CheckFault}
use Rattle.soar_rule.specs.declared.fault.CheckFault.TheVariants as faults
use Rattle.soar_rule.specs.declared.production.Production.{Production}
use Rattle.soar_rule.specs.Checking.{no_state, unbound, unconnected, too_many, too_deep, bad_preference, ordered}
use Rattle.soar_rule.specs.Productions.{ProductionOf, production_seen}

-- the production in match order, or its first fault; only want of memory is free
abbrev pub IsChecked : ProductionOf → Result Production CheckFault → Type 0
IsChecked p (Ok q) = ordered p ≡ Ok (production_seen q)
IsChecked p (Err faults.NoState) = ordered p ≡ Err no_state
IsChecked p (Err (faults.Unbound v)) = ordered p ≡ Err (unbound v)
IsChecked p (Err (faults.Unconnected k)) = ordered p ≡ Err (unconnected k)
IsChecked p (Err (faults.TooMany n)) = ordered p ≡ Err (too_many n)
IsChecked p (Err faults.TooDeep) = ordered p ≡ Err too_deep
IsChecked p (Err faults.BadPref) = ordered p ≡ Err bad_preference
IsChecked p (Err faults.NoMemory) = Unit {0}
