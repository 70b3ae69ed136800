-- The outcome of a command: it is carried out, or refused with a number, or asks for what the caller does.
use Rattle.std.specs.Prelude.{◌≡◌, ℕ, List, [], ◌∷◌, length, Option, Some, None, Result, Ok, Err}
use Rattle.soar_sym.specs.Words.{Texts}
use Rattle.defs_soar.specs.declared.limit.Which.{Which}
use Rattle.defs_soar.specs.Limits.{first_passed, words_to}
use Rattle.defs_run.specs.Carrying.{carried_out}
use Rattle.defs_run.specs.Inputs.{Carried, does, refuses}
use Rattle.defs_run.specs.Orders.{Order, quit, Refusal, run_cycles, source}
use Rattle.defs_run.specs.Sessions.{Session}
use Rattle.defs_run.specs.Stages.{Reading}
use Rattle.soar_settle.specs.declared.stop.Stop.{Stop}
use Rattle.soar_settle.specs.declared.stop.Stop.TheVariants as stop
use Rattle.soar_agent.specs.Running.{run_learning}
use Rattle.soar_agent.specs.declared.outcome.Outcome.{Outcome}
use Rattle.soar_agent.specs.declared.outcome.Outcome.TheVariants as outcome

-- of an order that is not refused: the caller runs cycles, fetches a file and ends
abbrev pub outcome_of_order : Order → Outcome
outcome_of_order (run_cycles count) = outcome.Run count
outcome_of_order (source name) = outcome.Source name
outcome_of_order quit = outcome.Quit
outcome_of_order other = outcome.Done

-- of an order, by what it does or why it is refused
abbrev pub outcome_by : Order → Carried → Outcome
outcome_by order (does reply) = outcome_of_order order
outcome_by order (refuses refusal) = outcome.Refused refusal.number

-- of the order that was read, or of the refusal that the words alone decide
abbrev pub outcome_read : Session → Result Order Refusal → Outcome
outcome_read s (Ok order) = outcome_by order (carried_out run_learning order s)
outcome_read s (Err refusal) = outcome.Refused refusal.number

-- the session whose table has the words of a command
abbrev pub with_words : Texts → Session → Session
with_words words s = record s { agent = record s.agent { names = record s.agent.names { words = words } } }

-- of a command that was read
abbrev pub command_outcome : Session → Reading → Outcome
command_outcome s r = outcome_read (with_words r.words s) r.order

-- the limit that the words of a command pass
abbrev pub limit_of_words : Reading → Option Which
limit_of_words r = first_passed (words_to (length r.words) ∷ [])

-- The answer is the outcome. Where the caller is to run cycles, a limit comes from the words alone.
abbrev pub HasOutcome : Session → Reading → Result Outcome Stop → Type 0
HasOutcome s r (Ok answer) = (answer ≡ command_outcome s r) × (limit_of_words r ≡ None)
HasOutcome s r (Err (stop.Limit limit)) = (count : ℕ) → command_outcome s r ≡ outcome.Run count → limit_of_words r ≡ Some limit
HasOutcome s r (Err stop.NoMemory) = Unit {0}
