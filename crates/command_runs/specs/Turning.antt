-- What taking a command off a stream leads to.
use Rattle.std.specs.Prelude.{◌≡◌, ℕ, Bool, true, false, List, [], ◌∷◌, Option, Result, Ok, Err}
use Rattle.soar_edge.specs.Cuts.{StandsFirst, Uncut}
use Rattle.soar_edge.specs.Cutting.{Cut}
use Rattle.soar_edge.specs.declared.filed.Filed.{Filed}
use Rattle.defs_run.specs.Whole.{whole_stage}
use Rattle.defs_run.specs.Runs.{Run}
use Rattle.defs_run.specs.Sessions.{Session}
use Rattle.defs_run.specs.Sources.{Obeying, cut_run, cuts_run}
use Rattle.command_runs.specs.Following.{Breaks, FlowsTo, IsReadyFlow, IsReadyStep, OpensWithin, Steps}
use Rattle.command_runs.specs.declared.ends.Flow.{Flow}
use Rattle.command_runs.specs.declared.ends.Flow.TheVariants as flow
use Rattle.command_runs.specs.declared.fault.Fault.{Fault}
use Rattle.command_runs.specs.declared.progress.Progress.{Progress}
use Rattle.command_runs.specs.declared.turn.Turn.{Turn}
use Rattle.command_runs.specs.declared.turn.Turn.TheVariants as turn

-- what is left behind the last command that was whole: nothing of a stream that has ended
abbrev pub left_behind : Bool → List Cut → List Cut
left_behind true left = []
left_behind false left = left

-- of the commands that were left the first was taken, and led to this; or none of them is whole any more, or they ended the run
abbrev pub Turns : {C : Type 0} → (Session → Type 0) → Progress C → Option (List ℕ) → Option (List ℕ) → Option ℕ → Option Obeying → List Filed → List ℕ → Bool → List Cut → List Cut → Run → Result Turn Fault → Type 0
Turns stands p before now fails inner stock from closed cuts left r (Ok (turn.Took step)) =
    (c : Cut) → cuts ≡ c ∷ left → Steps stands p before now fails inner (cut_run whole_stage inner fails stock from c r) (Ok step)
Turns stands p before now fails inner stock from closed cuts left r (Ok (turn.Last flow)) =
    FlowsTo stands p before now fails (cuts_run whole_stage inner fails stock from (left_behind closed left)) (cuts_run whole_stage inner fails stock from cuts r) (Ok flow)
Turns stands p before now fails inner stock from closed cuts left r (Err e) = Breaks p.fetched before now fails (cuts_run whole_stage inner fails stock from cuts r) e

-- one command was taken off, whatever follows
abbrev pub TakesCommand : Uncut → Uncut → Result Turn Fault → Type 0
TakesCommand old new (Ok (turn.Took step)) = (c : Cut) × StandsFirst old new (λ cuts. c ∷ cuts)
TakesCommand old new other = Unit {0}

-- where a stream may go on, no command is whole until more of it has come
abbrev pub Waits : Bool → List Cut → Result Flow Fault → Type 0
Waits false left (Ok flow.Goes) = left ≡ []
Waits closed left other = Unit {0}

abbrev pub WaitsBehind : Bool → List Cut → Result Turn Fault → Type 0
WaitsBehind closed left (Ok (turn.Last flow)) = Waits closed left (Ok flow)
WaitsBehind closed left other = Unit {0}

abbrev pub IsTurn : ℕ → Result Turn Fault → Type 0
IsTurn depth (Ok (turn.Took step)) = OpensWithin depth (Ok step)
IsTurn depth other = Unit {0}

abbrev pub IsReadyTurn : Type 0 → Result Turn Fault → Type 0
IsReadyTurn ready (Ok (turn.Took step)) = IsReadyStep ready (Ok step)
IsReadyTurn ready (Ok (turn.Last flow)) = IsReadyFlow ready (Ok flow)
IsReadyTurn ready (Err e) = Unit {0}
