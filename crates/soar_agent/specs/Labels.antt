-- What making labels does to the session.
use Rattle.std.specs.Prelude.{◌≡◌, List, Some, None, Result, Ok, Err}
use Rattle.soar_sym.specs.declared.symbol.Sym.{Sym}
use Rattle.soar_sym.specs.declared.symbol.Triple.{Triple}
use Rattle.defs_soar.specs.History.{RecordedFiring}
use Rattle.defs_soar.specs.Limits.{first_passed}
use Rattle.defs_run.specs.Inputs.{Spelled}
use Rattle.defs_run.specs.Sessions.{Resolved}
use Rattle.soar_settle.specs.declared.stop.Stop.{Stop}
use Rattle.soar_settle.specs.declared.stop.Stop.TheVariants as stop
use Rattle.soar_cycle.specs.Remembers.{Remembers}
use Rattle.soar_agent.specs.States.{session_of}
use Rattle.soar_agent.specs.declared.state.Session.{Session as SessionKept}

-- the session is the one in which the operand stands for the symbol, and its parts remember the history; or the identifiers of a letter are spent
abbrev pub Makes : {M : Type 0} → SessionKept M → Resolved → List RecordedFiring → Result Sym Stop → Type 0
Makes new r history (Ok symbol) = (symbol ≡ r.symbol) × (session_of new history ≡ r.session) × (first_passed r.totals ≡ None) × Remembers new.agent.parts history
Makes new r history (Err (stop.Limit limit)) = first_passed r.totals ≡ Some limit
Makes new r history (Err stop.NoMemory) = Unit {0}

-- the same of three operands and their triple
abbrev pub Spells : {M : Type 0} → SessionKept M → Spelled → List RecordedFiring → Result Triple Stop → Type 0
Spells new t history (Ok triple) = (triple ≡ t.triple) × (session_of new history ≡ t.session) × (first_passed t.totals ≡ None) × Remembers new.agent.parts history
Spells new t history (Err (stop.Limit limit)) = first_passed t.totals ≡ Some limit
Spells new t history (Err stop.NoMemory) = Unit {0}
