-- What the calls by which a session works ask, and what they do to the state, each one step.
use Rattle.std.specs.Prelude.{◌≡◌, ℕ, suc, ◌+◌, Bool, true, false, not, List, [], ◌∷◌, ◌++◌, filter, Some, Result, Ok, Err}
use Rattle.soar_sym.specs.Letters.{last_of, with_last}
use Rattle.soar_sym.specs.Words.{IsKnown, Texts}
use Rattle.soar_sym.specs.declared.symbol.Sym.{Sym}
use Rattle.soar_sym.specs.declared.symbol.Sym.TheVariants.{Ident}
use Rattle.soar_sym.specs.declared.symbol.Triple.{Triple}
use Rattle.soar_rule.specs.Checking.{ordered}
use Rattle.soar_rule.specs.Productions.{ProductionOf}
use Rattle.soar_rule.specs.Symbols.{constants_of}
use Rattle.defs_soar.specs.Agents.{Agent}
use Rattle.defs_soar.specs.Cycle.{held_with}
use Rattle.defs_soar.specs.Laws.{IsIn}
use Rattle.defs_soar.specs.Limits.{Total, counts_to, first_passed, identifiers_to}
use Rattle.defs_soar.specs.Resettling.{AgentStep, resettled}
use Rattle.defs_soar.specs.Start.{restarted}
use Rattle.defs_soar.specs.Values.{triple_eq}
use Rattle.defs_run.specs.Carrying.{with_production, without_name}
use Rattle.learning_laws.specs.LawfulAgents.{AreGiven, IsLiteral, symbols_of_triple}
use Rattle.soar_settle.specs.declared.stop.Stop.{Stop}
use Rattle.soar_settle.specs.declared.stop.Stop.TheVariants as stop
use Rattle.decision_parts.specs.Seen.{Stepped}
use Rattle.decision_parts.specs.Parts.{Parts as PartsKept}

abbrev pub IsTripleKnown : Texts → Triple → Type 0
IsTripleKnown words t = IsKnown words t.id × IsKnown words t.attr × IsKnown words t.value

-- its words are in the table, and its identifiers were given by the letters
abbrev pub IsTripleGiven : PartsKept → Triple → Type 0
IsTripleGiven p t = AreGiven (record { words = p.table; letters = p.letters; last_tag = p.memory.last }) (symbols_of_triple t)

-- the check gives it back, and its constants and the names of its variables are words of the table or numbers
pub record MayBeLoaded (words : Texts) (production : ProductionOf) : Type 0 where
  pub checked : ordered production ≡ Ok production
  pub literal : (s : Sym) → IsIn s (production.vars ++ constants_of production) → IsLiteral words s

-- a state, and what getting there drew
abbrev pub drawn : Agent → List Total → AgentStep
drawn a totals = record { agent = a; events = []; totals = totals; halted = false }

-- ---- inputs at once

-- with the triple behind the others, or without it
abbrev pub with_input : Bool → Triple → List Triple → List Triple
with_input true t inputs = inputs ++ t ∷ []
with_input false t inputs = filter (λ u. not (triple_eq u t)) inputs

abbrev pub input_step : Bool → Triple → Agent → AgentStep
input_step adds t a = resettled a (held_with a (with_input adds t a.holding.inputs))

-- ---- queues

abbrev pub queue_step : Bool → Triple → Agent → AgentStep
queue_step adds t a = drawn (record a { queues = record a.queues { input = a.queues.input ++ record { adds = adds; triple = t } ∷ [] } }) []

abbrev pub random_step : List ℕ → Agent → AgentStep
random_step words a = drawn (record a { queues = record a.queues { random = a.queues.random ++ words } }) []

-- ---- rules

-- in the place of the production of that name, under the next rule number
abbrev pub load_step : ProductionOf → Agent → AgentStep
load_step production a = drawn (record a { program = with_production production a.program }) (counts_to (suc a.program.last_rule) ∷ [])

-- without those of the name
abbrev pub excised_agent : Sym → Agent → Agent
excised_agent name a = record a { program = without_name name a.program }

-- ---- starting anew

abbrev pub restart_step : Agent → AgentStep
restart_step a = drawn (restarted a) []

-- ---- identifiers

abbrev pub next_number : ℕ → Agent → ℕ
next_number letter a = last_of a.names.letters letter + 1

abbrev pub fresh_step : ℕ → Agent → AgentStep
fresh_step letter a = drawn (record a { names = record a.names { letters = with_last a.names.letters letter (next_number letter a) } }) (identifiers_to (next_number letter a) ∷ [])

-- each answer, exactly where it comes; only want of memory is free
abbrev pub GivesFresh : ℕ → Agent → PartsKept → Result Sym Stop → Type 0
GivesFresh letter a new (Ok symbol) = (symbol ≡ Ident letter (next_number letter a)) × Stepped new (fresh_step letter a)
GivesFresh letter a new (Err (stop.Limit limit)) = first_passed (fresh_step letter a).totals ≡ Some limit
GivesFresh letter a new (Err stop.NoMemory) = Unit {0}
