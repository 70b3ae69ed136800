-- What a step comes to, against the limits.
use Rattle.std.specs.Prelude.{◌≡◌, List, None, Some, Result, Ok, Err}
use Rattle.defs_soar.specs.Limits.{Total, first_passed}
use Rattle.soar_settle.specs.declared.stop.Stop.{Stop}
use Rattle.soar_settle.specs.declared.stop.Stop.TheVariants as stop

-- a step that comes to these totals ends at the first limit that they pass, and only there
abbrev pub Reaches : {A : Type 0} → List Total → Result A Stop → Type 0
Reaches totals (Ok x) = first_passed totals ≡ None
Reaches totals (Err (stop.Limit which)) = first_passed totals ≡ Some which
Reaches totals (Err stop.NoMemory) = Unit {0}
