-- What the explanation of a rule says, by the number of the rule.
use Rattle.std.specs.Prelude.{ℕ}
use Rattle.soar_sym.specs.declared.symbol.Sym.{Sym}
use Rattle.defs_run.specs.Carrying.{chain_of_rule, explained}
use Rattle.defs_run.specs.Inputs.{Carried}
use Rattle.defs_run.specs.Sessions.{Session}

-- of the rule of this name
abbrev pub explains : Sym → ℕ → Session → Carried
explains name number s = explained s name (chain_of_rule s.agent.program.chains number)
