-- What the session does for an order.
use Rattle.std.specs.Prelude.{◌≡◌, ℕ, Bool, List, Result, Ok, Err}
use Rattle.soar_sym.specs.Words.{Texts}
use Rattle.defs_soar.specs.History.{RecordedFiring}
use Rattle.defs_run.specs.Carrying.{carried_out}
use Rattle.defs_run.specs.Inputs.{Carried, does, refuses}
use Rattle.defs_run.specs.Orders.{Order}
use Rattle.defs_run.specs.Runs.{replied_by}
use Rattle.defs_run.specs.Sessions.{Session, Reply, refused_by}
use Rattle.soar_settle.specs.declared.stop.Stop.{Stop}
use Rattle.soar_settle.specs.declared.stop.Stop.TheVariants as stop
use Rattle.soar_cycle.specs.Remembers.{Remembers}
use Rattle.soar_cycle.specs.Agents.{with_table as agent_with_table}
use Rattle.soar_agent.specs.Commands.{Outcomes}
use Rattle.soar_agent.specs.Outcomes.{outcome_by}
use Rattle.soar_agent.specs.Running.{run_learning}
use Rattle.soar_agent.specs.States.{session_of}
use Rattle.soar_agent.specs.Steps.{Stops}
use Rattle.soar_agent.specs.declared.outcome.Outcome.{Outcome}
use Rattle.soar_agent.specs.declared.outcome.Outcome.TheVariants.{Done, Refused, Run}
use Rattle.soar_agent.specs.declared.state.Session.{Session as SessionKept}

-- ---- responses

-- a reply, with the outcome
pub record Response : Type 0 where
  pub reply : Reply
  pub outcome : Outcome

-- of what is carried out and asks nothing of the caller
abbrev pub plain : Reply → Response
plain reply = record { reply = reply; outcome = Done }

-- the same, unless it is refused, on the line of a number
abbrev pub response_by : List ℕ → ℕ → Session → Carried → Response
response_by from line s (does reply) = plain reply
response_by from line s (refuses r) = record { reply = refused_by r from line s; outcome = Refused r.number }

-- to any order
abbrev pub response_to : List ℕ → ℕ → Order → Session → Response
response_to from line order s =
    let carried = carried_out run_learning order s in record { reply = replied_by from line s carried; outcome = outcome_by order carried }

-- it leaves no cycles to the caller, in which limits may be passed
abbrev pub HasNoCycles : Outcome → Type 0
HasNoCycles (Run count) = ⊥
HasNoCycles other = Unit {0}

-- each answer, exactly where it comes; only want of memory is free
abbrev pub Responds : {M : Type 0} → ℕ → Bool → Response → SessionKept M → List ℕ → List ℕ → Result Outcome Stop → Type 0
Responds watch mid r new before after (Ok answer) = (answer ≡ r.outcome) × Outcomes watch mid r.reply new before after (Ok answer)
Responds watch mid r new before after (Err (stop.Limit limit)) = Stops watch mid r.reply new before after limit × HasNoCycles r.outcome
Responds watch mid r new before after (Err stop.NoMemory) = Unit {0}

abbrev pub Obeys : {M : Type 0} → ℕ → Bool → Reply → SessionKept M → List ℕ → List ℕ → Result Outcome Stop → Type 0
Obeys watch mid reply new before after result = Responds watch mid (plain reply) new before after result

-- ---- orders

-- what a command does in the session, as the reply to it says, with each history of firings that its parts remember; lines keep the watch level that was set before
abbrev pub Replies : {M : Type 0} → SessionKept M → SessionKept M → (Session → Reply) → List ℕ → List ℕ → Result Outcome Stop → Type 0
Replies old new reply before after result =
    (history : List RecordedFiring) → Remembers old.agent.parts history → Obeys old.agent.parts.settings.watch old.agent.mid_line (reply (session_of old history)) new before after result

-- the same where nothing is said
abbrev pub RepliesNothing : {M : Type 0} → SessionKept M → SessionKept M → (Session → Reply) → Result Outcome Stop → Type 0
RepliesNothing old new reply result = (said : List ℕ) → Replies old new reply said said result

-- the same where the order does something or is refused, on the line of a number
abbrev pub Carries : {M : Type 0} → SessionKept M → SessionKept M → List ℕ → ℕ → (Session → Carried) → List ℕ → List ℕ → Result Outcome Stop → Type 0
Carries old new from line carried before after result =
    (history : List RecordedFiring) → Remembers old.agent.parts history → let s = session_of old history in
    Responds old.agent.parts.settings.watch old.agent.mid_line (response_by from line s (carried s)) new before after result

-- the same of an order that may ask for what the caller does
abbrev pub CarriesOut : {M : Type 0} → SessionKept M → SessionKept M → List ℕ → ℕ → Order → List ℕ → List ℕ → Result Outcome Stop → Type 0
CarriesOut old new from line order before after result =
    (history : List RecordedFiring) → Remembers old.agent.parts history →
    Responds old.agent.parts.settings.watch old.agent.mid_line (response_to from line order (session_of old history)) new before after result

-- the session with another table
abbrev pub with_table : {M : Type 0} → Texts → SessionKept M → SessionKept M
with_table words s = record s { agent = agent_with_table s.agent words }
