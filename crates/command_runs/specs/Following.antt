-- How far the code has gone along a run of the definitions.
use Rattle.std.specs.Prelude.{◌≡◌, ℕ, zero, suc, ◌<◌, Bool, true, false, List, Option, Some, None, Result, Ok, Err}
use Rattle.soar_edge.specs.Outside.{Appends, AppendsSome}
use Rattle.soar_edge.specs.declared.fault.PutFault.{PutFault}
use Rattle.soar_edge.specs.declared.fault.PutFault.TheVariants as put
use Rattle.soar_edge.specs.declared.filed.Filed.{Filed}
use Rattle.soar_edge.specs.declared.status.Status.{Status}
use Rattle.soar_edge.specs.declared.status.Status.TheVariants as status
use Rattle.defs_run.specs.Whole.{whole_stage}
use Rattle.defs_run.specs.Runs.{Run, Ran, behind_text, after_reply, obeyed}
use Rattle.defs_run.specs.Sessions.{Session}
use Rattle.defs_run.specs.Sources.{Obeying, obeying}
use Rattle.command_runs.specs.Carrying.{sequel_of}
use Rattle.command_runs.specs.declared.carrier.Next.{Next}
use Rattle.command_runs.specs.declared.ends.End.{End}
use Rattle.command_runs.specs.declared.ends.End.TheVariants as end
use Rattle.command_runs.specs.declared.ends.Flow.{Flow}
use Rattle.command_runs.specs.declared.ends.Flow.TheVariants as flow
use Rattle.command_runs.specs.declared.ends.Opened.{Opened}
use Rattle.command_runs.specs.declared.ends.Step.{Step}
use Rattle.command_runs.specs.declared.ends.Step.TheVariants as step
use Rattle.command_runs.specs.declared.fault.Broken.{Broken}
use Rattle.command_runs.specs.declared.fault.Broken.TheVariants as broken
use Rattle.command_runs.specs.declared.fault.Fault.{Fault}
use Rattle.command_runs.specs.declared.fault.Fault.TheVariants as fault
use Rattle.command_runs.specs.declared.progress.Progress.{Progress}

-- ---- ends and faults

-- the status of an end
abbrev pub status_of_end : End → Status
status_of_end end.Done = status.Done
status_of_end end.Refusals = status.Refusals
status_of_end end.TooLong = status.TooLong
status_of_end end.Limit = status.Limit

-- the end of a run in which some command was refused, or none
abbrev pub ended_by : Bool → End
ended_by true = end.Refusals
ended_by false = end.Done

-- the fault of a write
abbrev pub fault_of : PutFault → Fault
fault_of put.Failed = fault.Sink
fault_of put.NoMemory = fault.NoMemory

-- ---- where the code stands

-- what carries the commands out stands for the session of the run, which has not ended, and the counts are the run's
pub record IsAt {C : Type 0} (stands : Session → Type 0) (p : Progress C) (r : Run) : Type 0 where
  pub session : stands r.session
  pub refused : p.refused ≡ r.refused
  pub fetched : p.fetched ≡ r.fetched
  pub goes : r.ended ≡ None

-- the fetch that fails, if one does, comes behind so many
abbrev pub Comes : Option ℕ → ℕ → Type 0
Comes None count = Unit {0}
Comes (Some n) count = count < n

-- ---- what was written

-- all that a part of the run writes, behind which the run goes on
pub record IsOn {C : Type 0} (stands : Session → Type 0) (p : Progress C) (before now : Option (List ℕ)) (x : Ran) : Type 0 where
  pub text : Appends before now x.text
  pub at_run : IsAt stands p x.run

-- all of it, where the run ended so
pub record IsOver (before now : Option (List ℕ)) (s : Status) (x : Ran) : Type 0 where
  pub text : Appends before now x.text
  pub ended : x.run.ended ≡ Some s

-- a front of it where something failed; where that was the fetch that fails, all of it
pub record IsCut (fetched : ℕ) (before now : Option (List ℕ)) (fails : Option ℕ) (x : Ran) : Type 0 where
  pub front : AppendsSome before now x.text
  pub whole : fails ≡ Some (suc fetched) → IsOver before now status.FileFault x

abbrev pub Breaks : ℕ → Option (List ℕ) → Option (List ℕ) → Option ℕ → Ran → Fault → Type 0
Breaks fetched before now fails x fault.Shelf = IsCut fetched before now fails x
Breaks fetched before now fails x other = AppendsSome before now x.text

-- of a part of the run that is carried out whole
abbrev pub Flows : {C : Type 0} → (Session → Type 0) → Progress C → Option (List ℕ) → Option (List ℕ) → Option ℕ → Ran → Result Flow Fault → Type 0
Flows stands p before now fails x (Ok flow.Goes) = IsOn stands p before now x
Flows stands p before now fails x (Ok (flow.Ends e)) = IsOver before now (status_of_end e) x
Flows stands p before now fails x (Err e) = Breaks p.fetched before now fails x e

-- of a whole run, of which the source may fail
abbrev pub RunsWhole : {C : Type 0} → (Session → Type 0) → Progress C → Option (List ℕ) → Option (List ℕ) → Option ℕ → Ran → Result Flow Broken → Type 0
RunsWhole stands p before now fails x (Ok how) = Flows stands p before now fails x (Ok how)
RunsWhole stands p before now fails x (Err broken.Source) = AppendsSome before now x.text
RunsWhole stands p before now fails x (Err (broken.Run e)) = Breaks p.fetched before now fails x e

-- so much was written, and the rest of the whole is this
pub record IsBehind {C : Type 0} (stands : Session → Type 0) (p : Progress C) (before now : Option (List ℕ)) (rest : Run → Ran) (whole : Ran) : Type 0 where
  pub run : Run
  pub done : List ℕ
  pub appended : Appends before now done
  pub at_run : IsAt stands p run
  pub comes : whole ≡ behind_text done (rest run)

-- of a part of the run that is carried out up to where the rest begins
abbrev pub FlowsTo : {C : Type 0} → (Session → Type 0) → Progress C → Option (List ℕ) → Option (List ℕ) → Option ℕ → (Run → Ran) → Ran → Result Flow Fault → Type 0
FlowsTo stands p before now fails rest whole (Ok flow.Goes) = IsBehind stands p before now rest whole
FlowsTo stands p before now fails rest whole (Ok (flow.Ends e)) = IsOver before now (status_of_end e) whole
FlowsTo stands p before now fails rest whole (Err e) = Breaks p.fetched before now fails whole e

-- of one that says nothing by itself
abbrev pub Passes : {C T : Type 0} → (Session → Type 0) → Progress C → Option (List ℕ) → Option (List ℕ) → Option ℕ → Ran → Result T Fault → Type 0
Passes stands p before now fails x (Ok y) = IsOn stands p before now x
Passes stands p before now fails x (Err e) = Breaks p.fetched before now fails x e

-- ---- files inside

-- how the commands of a file run inside a stream in which files may be read so many deep
abbrev pub inner_of : Option ℕ → List Filed → ℕ → Option Obeying
inner_of fails stock zero = None
inner_of fails stock (suc depth) = Some (obeying whole_stage fails stock depth)

-- some was written, and the rest of this part of the run is that of the file
pub record OpensFile {C : Type 0} (stands : Session → Type 0) (p : Progress C) (before now : Option (List ℕ)) (inner : Option Obeying) (x : Ran) (file : Opened) : Type 0 where
  pub run : Run
  pub text : List ℕ
  pub obeying : Obeying
  pub inside : inner ≡ Some obeying
  pub appended : Appends before now text
  pub at_run : IsAt stands p run
  pub comes : x ≡ behind_text text (obeying file.name true file.bytes run)

abbrev pub Steps : {C : Type 0} → (Session → Type 0) → Progress C → Option (List ℕ) → Option (List ℕ) → Option ℕ → Option Obeying → Ran → Result Step Fault → Type 0
Steps stands p before now fails inner x (Ok step.Goes) = IsOn stands p before now x
Steps stands p before now fails inner x (Ok (step.Ends e)) = IsOver before now (status_of_end e) x
Steps stands p before now fails inner x (Ok (step.Opens file)) = OpensFile stands p before now inner x file
Steps stands p before now fails inner x (Err e) = Breaks p.fetched before now fails x e

-- a file is read only where one may be
abbrev pub OpensWithin : ℕ → Result Step Fault → Type 0
OpensWithin depth (Ok (step.Opens file)) = 0 < depth
OpensWithin depth other = Unit {0}

-- it can take a command again where the run goes on
abbrev pub IsReadyFlow : Type 0 → Result Flow Fault → Type 0
IsReadyFlow ready (Ok flow.Goes) = ready
IsReadyFlow ready other = Unit {0}

abbrev pub IsReadyStep : Type 0 → Result Step Fault → Type 0
IsReadyStep ready (Ok (step.Ends e)) = Unit {0}
IsReadyStep ready (Ok other) = ready
IsReadyStep ready (Err e) = Unit {0}

-- a command passed no limit, and this follows it; or it passed one, and ended the run
abbrev pub CarriesOut : {C : Type 0} → (Session → Type 0) → Progress C → Option (List ℕ) → Option (List ℕ) → Option ℕ → List ℕ → ℕ → List ℕ → Run → Result (Option Next) Fault → Type 0
CarriesOut stands p before now fails from number text r (Ok (Some following)) =
    let reply = obeyed whole_stage from number text r.session in
    IsOn stands p before now (after_reply r reply) × (reply.sequel ≡ sequel_of following)
CarriesOut stands p before now fails from number text r (Ok None) = IsOver before now status.Limit (after_reply r (obeyed whole_stage from number text r.session))
CarriesOut stands p before now fails from number text r (Err e) = Breaks p.fetched before now fails (after_reply r (obeyed whole_stage from number text r.session)) e

abbrev pub IsReadyCarried : Type 0 → Result (Option Next) Fault → Type 0
IsReadyCarried ready (Ok (Some following)) = ready
IsReadyCarried ready other = Unit {0}
