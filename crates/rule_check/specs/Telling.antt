-- Whether code tells the fault that the definitions tell.
use Rattle.std.specs.Prelude.{◌≡◌, Option, Some, None, Result, Ok, Err}
use Rattle.soar_rule.specs.declared.fault.CheckFault.{CheckFault}
use Rattle.soar_rule.specs.declared.fault.CheckFault.TheVariants as faults
use Rattle.soar_rule.specs.Checking.{Fault, no_state, unbound, unconnected, too_many, too_deep, bad_preference}

-- this fault, or none; only want of memory is free
abbrev pub Tells : {A : Type 0} → Option Fault → Result A CheckFault → Type 0
Tells fault (Ok a) = fault ≡ None
Tells fault (Err faults.NoState) = fault ≡ Some no_state
Tells fault (Err (faults.Unbound v)) = fault ≡ Some (unbound v)
Tells fault (Err (faults.Unconnected k)) = fault ≡ Some (unconnected k)
Tells fault (Err (faults.TooMany n)) = fault ≡ Some (too_many n)
Tells fault (Err faults.TooDeep) = fault ≡ Some too_deep
Tells fault (Err faults.BadPref) = fault ≡ Some bad_preference
Tells fault (Err faults.NoMemory) = Unit {0}
