-- What `explain` prints of a rule stays, for as long as the rule is loaded.
use Rattle.std.specs.Prelude.{◌≡◌, ℕ, List, ◌∷◌, Some}
use Rattle.soar_sym.specs.Words.{Texts}
use Rattle.soar_sym.specs.declared.symbol.Sym.{Sym}
use Rattle.soar_rule.specs.Symbols.{AreKnown}
use Rattle.defs_match.specs.Rules.{RuleOf}
use Rattle.defs_soar.specs.Agents.{Agent, Program}
use Rattle.defs_soar.specs.History.{ChainOf}
use Rattle.defs_soar.specs.Laws.{IsIn}
use Rattle.defs_soar.specs.Phases.{Course}
use Rattle.defs_soar.specs.Texts.{chain_lines}
use Rattle.defs_run.specs.Carrying.{carried_out, chain_of_rule, rule_named}
use Rattle.defs_run.specs.Inputs.{does}
use Rattle.defs_run.specs.Orders.{explain}
use Rattle.defs_run.specs.Sessions.{first_session, says, Session}
use Rattle.chain_texts.specs.Shown.{shown_symbols}
use Rattle.learning_laws.specs.Lawful.{Grown}
use Rattle.explanation_laws.specs.Staying.{IsNumberedProgram, Later}
use Rattle.explanation_laws.specs.Stays.{after_commands, Command}

-- the lines of an explanation whose symbols are known are the same with each longer table
abbrev pub LinesStay : Type 0
LinesStay = (words later : Texts) (name : Sym) (c : ChainOf) → AreKnown words (name ∷ shown_symbols c) → Grown words later → chain_lines later name c ≡ chain_lines words name c

-- `explain` prints these lines of the rule that has the name
abbrev pub Prints : (ℕ → Agent → Course) → Session → Sym → List (List ℕ) → Type 0
Prints runs s name lines = carried_out runs (explain name) s ≡ does (says s lines)

-- a rule of a program, and the explanation that it has there
pub record HasExplanation (p : Program) (r : RuleOf) (c : ChainOf) : Type 0 where
  pub numbered : IsNumberedProgram p
  pub there : IsIn r p.rules
  pub is : chain_of_rule p.chains r.number ≡ Some c

-- it has the same in each program that came of it and has the rule
abbrev pub LaterHasIt : Type 0
LaterHasIt = (p q : Program) (r : RuleOf) (c : ChainOf) → HasExplanation p r c → Later p q → IsIn r q.rules → HasExplanation q r c

-- and that is printed in each session whose program came of it and has the rule
abbrev pub LaterPrints : Type 0
LaterPrints =
    (runs : ℕ → Agent → Course) (p : Program) (s : Session) (name : Sym) (r : RuleOf) (c : ChainOf) → HasExplanation p r c → Later p s.agent.program
    → rule_named s.agent.program.rules name ≡ Some r → Prints runs s name (chain_lines s.agent.names.words name c)

-- as long as the rule is loaded, `explain` prints its explanation, whatever commands came in between
abbrev pub ExplanationsStay : Type 0
ExplanationsStay =
    (runs : ℕ → Agent → Course) (commands : List Command) (s : Session) (name : Sym) (r : RuleOf) (c : ChainOf) → HasExplanation s.agent.program r c
    → rule_named (after_commands commands s).agent.program.rules name ≡ Some r
    → Prints runs (after_commands commands s) name (chain_lines (after_commands commands s).agent.names.words name c)

-- so in each session that commands lead to from the first one, of a rule and the explanation that it had in any session before
abbrev pub ExplainedFromTheStart : Type 0
ExplainedFromTheStart =
    (runs : ℕ → Agent → Course) (watch : ℕ) (commands more : List Command) (name : Sym) (r : RuleOf) (c : ChainOf)
    → let s = after_commands commands (first_session watch) in
    let t = after_commands more s in
    IsIn r s.agent.program.rules → chain_of_rule s.agent.program.chains r.number ≡ Some c → rule_named t.agent.program.rules name ≡ Some r
    → Prints runs t name (chain_lines t.agent.names.words name c)

-- and where the symbols were known that it shows, in the very lines in which it would have been printed before the commands
abbrev pub PrintedLinesStay : Type 0
PrintedLinesStay =
    (runs : ℕ → Agent → Course) (commands : List Command) (s : Session) (name : Sym) (r : RuleOf) (c : ChainOf) → HasExplanation s.agent.program r c
    → AreKnown s.agent.names.words (name ∷ shown_symbols c) → rule_named (after_commands commands s).agent.program.rules name ≡ Some r
    → Prints runs (after_commands commands s) name (chain_lines s.agent.names.words name c)
