-- Copies with new numbers of variables, or with those that there are.
use Rattle.std.specs.Prelude.{Option, Some, None}
use Rattle.soar_rule.specs.declared.cond.Atom.{Atom}
use Rattle.soar_rule.specs.declared.numbering.Numbering.{Numbering}
use Rattle.soar_rule.specs.Canonical.{renumbered}

-- an atom by these numbers; without them it stays as it is
abbrev pub renumbered_by : Option Numbering → Atom → Atom
renumbered_by None a = a
renumbered_by (Some numbering) a = renumbered numbering.order a
