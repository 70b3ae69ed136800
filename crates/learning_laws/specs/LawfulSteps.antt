-- That each step keeps an agent lawful.
use Rattle.std.specs.Prelude.{List, ◌≡◌, ◌⊎◌, ◌++◌, false, ℕ, suc}
use Rattle.defs_match.specs.Rules.{RuleOf}
use Rattle.soar_rule.specs.Symbols.{constants_of}
use Rattle.soar_sym.specs.declared.symbol.Sym.{Sym}
use Rattle.soar_sym.specs.declared.symbol.Triple.{Triple}
use Rattle.defs_soar.specs.Agents.{Agent, Holding, Program, Queued, Queues}
use Rattle.defs_soar.specs.Laws.{IsIn}
use Rattle.defs_soar.specs.Pending.{is_justification}
use Rattle.defs_soar.specs.Resettling.{resettled}
use Rattle.defs_soar.specs.Trimming.{Remains}
use Rattle.defs_soar.specs.Cycle.{after_input, after_output, held_with}
use Rattle.defs_soar.specs.Decision.{decided_by}
use Rattle.defs_soar.specs.Start.{first_agent, restarted}
use Rattle.defs_soar.specs.WaveFirings.{before_wave}
use Rattle.learning_laws.specs.LawfulAgents.{AreGiven, symbols_of_triple, firings_of_agent, IsFounded, IsLawfulAgent, IsLiteral}
use Rattle.learning_laws.specs.Ready.{NegationsStand}
use Rattle.learning_laws.specs.Record.{IsLawfulRecord}
use Rattle.learning_laws.specs.Waves.{IsSettled}

-- what a lawful agent gives to what it learns: its moment is settled, and its history is lawful
abbrev pub LawfulAgentsAreSettled : Type 0
LawfulAgentsAreSettled = (a : Agent) → IsLawfulAgent a → IsSettled (before_wave a) (suc a.counts.firings)

abbrev pub LawfulAgentsHaveRecords : Type 0
LawfulAgentsHaveRecords = (a : Agent) → IsLawfulAgent a → IsLawfulRecord a.names.words (firings_of_agent a) a.holding.elements

-- Settling: what was founded before it, with the old elements, is lawful after it.
abbrev pub unsettled : Agent → Remains → Holding
unsettled a t = record { elements = a.holding.elements; goals = t.goals; rows = t.rows; inputs = t.inputs; live = t.live }

abbrev pub SettlingKeeps : Type 0
SettlingKeeps =
    (a : Agent) (t : Remains) → IsFounded a.names (unsettled a t) a.queues.input a.program.rules a.counts.firings (firings_of_agent a) → IsLawfulAgent (resettled a t).agent

-- the steps
abbrev pub FirstIsLawful : Type 0
FirstIsLawful = (watch : ℕ) → IsLawfulAgent (first_agent watch)

abbrev pub StartingAnewKeeps : Type 0
StartingAnewKeeps = (a : Agent) → IsLawfulAgent a → IsLawfulAgent (restarted a)

abbrev pub InputKeeps : Type 0
InputKeeps = (a : Agent) → IsLawfulAgent a → IsLawfulAgent (after_input a).agent

abbrev pub OutputKeeps : Type 0
OutputKeeps = (a : Agent) → IsLawfulAgent a → IsLawfulAgent (after_output a).agent

abbrev pub DecisionKeeps : Type 0
DecisionKeeps = (a : Agent) → IsLawfulAgent a → IsLawfulAgent (decided_by a).agent

-- Loading and excising change the rules alone: each rule was there, or its negations stand and it has words and numbers alone.
pub record IsLoadable (a : Agent) (r : RuleOf) : Type 0 where
  pub stand : NegationsStand r.production
  pub literal : is_justification r.production.kind ≡ false → (s : Sym) → IsIn s (r.production.vars ++ constants_of r.production) → IsLiteral a.names.words s

abbrev pub RulesKeep : Type 0
RulesKeep =
    (a : Agent) (program : Program) → IsLawfulAgent a → ((r : RuleOf) → IsIn r program.rules → IsIn r a.program.rules ⊎ IsLoadable a r) → IsLawfulAgent (record a { program = program })

-- Orders on inputs and on the queue: their symbols were given.
abbrev pub InputsKeep : Type 0
InputsKeep =
    (a : Agent) (inputs : List Triple) → IsLawfulAgent a → ((t : Triple) → IsIn t inputs → AreGiven a.names (symbols_of_triple t)) → IsLawfulAgent (resettled a (held_with a inputs)).agent

abbrev pub QueuesKeep : Type 0
QueuesKeep =
    (a : Agent) (queues : Queues) → IsLawfulAgent a → ((q : Queued) → IsIn q queues.input → AreGiven a.names (symbols_of_triple q.triple)) → IsLawfulAgent (record a { queues = queues })
