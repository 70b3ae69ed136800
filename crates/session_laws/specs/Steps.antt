-- What a session does to an agent between its cycles keeps it lawful.
use Rattle.std.specs.Prelude.{◌≡◌, ℕ, ◌+◌, ◌++◌, ◌≤◌, Bool, Ok}
use Rattle.soar_sym.specs.Letters.{last_of, with_last}
use Rattle.soar_sym.specs.Words.{Texts}
use Rattle.soar_rule.specs.Checking.{ordered}
use Rattle.soar_rule.specs.Productions.{ProductionOf}
use Rattle.soar_rule.specs.Symbols.{constants_of}
use Rattle.soar_sym.specs.declared.symbol.Sym.{Sym}
use Rattle.defs_soar.specs.Agents.{Agent, Settings}
use Rattle.defs_soar.specs.Laws.{IsIn}
use Rattle.learning_laws.specs.Lawful.{Grown}
use Rattle.learning_laws.specs.LawfulAgents.{EachOnce, IsLawfulAgent, IsLiteral}
use Rattle.learning_laws.specs.LawfulSteps.{IsLoadable}

-- more words, each text once
abbrev pub WordsKeep : Type 0
WordsKeep =
    (a : Agent) (words : Texts) → IsLawfulAgent a → Grown a.names.words words → EachOnce words → IsLawfulAgent (record a { names = record a.names { words = words } })

-- a new identifier of a letter from A to Z
abbrev pub IdentifiersKeep : Type 0
IdentifiersKeep =
    (a : Agent) (letter : ℕ) → IsLawfulAgent a → 65 ≤ letter → letter ≤ 90
    → IsLawfulAgent (record a { names = record a.names { letters = with_last a.names.letters letter (last_of a.names.letters letter + 1) } })

-- settings, a halt, what the output link showed last
abbrev pub SettingsKeep : Type 0
SettingsKeep = (a : Agent) (settings : Settings) → IsLawfulAgent a → IsLawfulAgent (record a { settings = settings })

abbrev pub HaltsKeep : Type 0
HaltsKeep = (a : Agent) (halted : Bool) → IsLawfulAgent a → IsLawfulAgent (record a { halted = halted })

-- what the check gives, where all its constants and the names of its variables are words and numbers, may be loaded under any number
abbrev pub CheckedMayBeLoaded : Type 0
CheckedMayBeLoaded =
    (a : Agent) (p : ProductionOf) (number : ℕ) → ordered p ≡ Ok p → ((s : Sym) → IsIn s (p.vars ++ constants_of p) → IsLiteral a.names.words s)
    → IsLoadable a (record { number = number; production = p })
