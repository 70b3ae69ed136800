-- Parts of an expansion, one after another.
use Rattle.std.specs.Prelude.{List, ◌++◌}
use Rattle.soar_rule.specs.Productions.{ValueOf, ValuesOf}
use Rattle.defs_read.specs.ActionExpansion.{list_of}
use Rattle.defs_read.specs.FreshNames.{Expanded, expanded}

-- what came of a list so far, and what comes of its rest
abbrev pub behind : {A : Type 0} → List A → Expanded (List A) → Expanded (List A)
behind made e = expanded (made ++ e.value) e.names

-- the values of a call as a list
abbrev pub listed : Expanded ValuesOf → Expanded (List ValueOf)
listed e = expanded (list_of e.value) e.names
