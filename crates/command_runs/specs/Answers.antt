-- Each answer of a run, and when it comes.
use Rattle.std.specs.Prelude.{◌≡◌, ◌⊎◌, ℕ, suc, ◌^◌, ◌≤◌, Bool, true, false, List, [], ◌++◌, length, Option, Some, None, Result, Ok, Err}
use Rattle.soar_edge.specs.Outside.{Appends, Rose}
use Rattle.soar_edge.specs.declared.status.Status.{Status}
use Rattle.soar_edge.specs.declared.status.Status.TheVariants as status
use Rattle.soar_edge.specs.declared.filed.Filed.{Filed}
use Rattle.defs_run.specs.CommandLine.{Options}
use Rattle.defs_run.specs.Runs.{Ran}
use Rattle.defs_run.specs.Transcripts.{Transcript}
use Rattle.command_runs.specs.Causes.{Faults, counted_on}
use Rattle.command_runs.specs.Following.{ended_by, status_of_end}
use Rattle.command_runs.specs.Whole.{asked_run, comes_to_input, front_run, is_open}
use Rattle.command_runs.specs.declared.ends.End.TheVariants as end
use Rattle.command_runs.specs.declared.ends.Flow.{Flow}
use Rattle.command_runs.specs.declared.ends.Flow.TheVariants as flow
use Rattle.command_runs.specs.declared.fault.Broken.{Broken}
use Rattle.command_runs.specs.declared.fault.Broken.TheVariants as broken
use Rattle.command_runs.specs.declared.fault.Fault.TheVariants as fault

-- what was written and the answer are the transcript's
pub record IsTranscript (old new : Option (List ℕ)) (answer : Status) (said : Transcript) : Type 0 where
  pub text : Appends old new said.text
  pub status : answer ≡ said.status

-- nothing failed, and what was written and the answer are the transcript's
abbrev pub Whole : Faults → Faults → Option (List ℕ) → Option (List ℕ) → Transcript → Status → Type 0
Whole before now old new said answer = (now ≡ before) × IsTranscript old new answer said

-- of an input in which a command ended the run: where some is left, the whole commands of what was taken end the run
pub record LeavesRest (read : List ℕ → Ran) (bytes : List ℕ) (left : Option (List ℕ)) : Type 0 where
  pub taken : List ℕ
  pub rest : List ℕ
  pub all : bytes ≡ taken ++ rest
  pub left_is : left ≡ Some rest
  pub needed : (rest ≡ []) ⊎ (is_open (read taken) ≡ false)

-- one that the run did not come to is untouched, and one whose end it came to is used up
abbrev pub IsLeftAs : Bool → Bool → (List ℕ → Ran) → List ℕ → Option (List ℕ) → Type 0
IsLeftAs false used read bytes left = left ≡ Some bytes
IsLeftAs true true read bytes left = left ≡ Some []
IsLeftAs true false read bytes left = LeavesRest read bytes left

-- what is left of the input behind a run that passed no limit and was not too long
unfoldable pub IsLeft : List Filed → Options → List ℕ → Option (List ℕ) → Type 0
IsLeft stock o bytes left = IsLeftAs (comes_to_input stock o) (is_open (asked_run None stock bytes o)) (λ taken. front_run stock taken o) bytes left

-- What each answer says, with what was and is left of the input, and what a run leaves of it. Only want of memory is free, and it is no fault of the outside.
abbrev pub Answers : Faults → Faults → List ℕ → Option (List ℕ) → Type 0 → Option (List ℕ) → Option (List ℕ) → Transcript → Status → Type 0
Answers before now bytes left kept old new said status.Done = Whole before now old new said status.Done × kept
Answers before now bytes left kept old new said status.Refusals = Whole before now old new said status.Refusals × kept
Answers before now bytes left kept old new said status.Usage = Whole before now old new said status.Usage × (left ≡ Some bytes)
Answers before now bytes left kept old new said status.NoMemory = now ≡ before
Answers before now bytes left kept old new said status.ReadFault = Rose before.source now.source × (now.shelf ≡ before.shelf) × (now.sink ≡ before.sink)
Answers before now bytes left kept old new said status.WriteFault = Rose before.sink now.sink × (now.source ≡ before.source) × (now.shelf ≡ before.shelf)
Answers before now bytes left kept old new said status.FileFault = Rose before.shelf now.shelf × (now.source ≡ before.source) × (now.sink ≡ before.sink)
Answers before now bytes left kept old new said status.TooLong = Whole before now old new said status.TooLong
Answers before now bytes left kept old new said status.Limit = Whole before now old new said status.Limit

-- what was written before a fetch that failed, after `count` that did not: the transcript that ends there; the shelf counted along
pub record EndsAtFetch (old new : Option (List ℕ)) (first : ℕ) (fetched : Option ℕ) (failing : ℕ → Transcript) : Type 0 where
  pub count : ℕ
  pub few : count ≤ 1000
  pub counted : fetched ≡ counted_on first count
  pub written : IsTranscript old new status.FileFault (failing (suc count))

-- what was written before a read that failed: all that the run writes over what was taken until then, at most 64 MiB, behind which it would go on
pub record EndsAtRead (old new : Option (List ℕ)) (bytes : List ℕ) (left : Option (List ℕ)) (read : List ℕ → Ran) : Type 0 where
  pub taken : List ℕ
  pub rest : List ℕ
  pub all : bytes ≡ taken ++ rest
  pub left_is : left ≡ Some rest
  pub few : length taken ≤ 2 ^ 26
  pub text : Appends old new (read taken).text
  pub goes : (read taken).run.ended ≡ None

-- all commands were carried out, some of them refused or none, or memory ran out
abbrev pub IsComplete : Status → Type 0
IsComplete status.Done = Unit {0}
IsComplete status.Refusals = Unit {0}
IsComplete status.NoMemory = Unit {0}
IsComplete other = ⊥

-- the answer of a run that broke off
abbrev pub fault_status : Broken → Status
fault_status broken.Source = status.ReadFault
fault_status (broken.Run fault.Shelf) = status.FileFault
fault_status (broken.Run fault.Sink) = status.WriteFault
fault_status (broken.Run fault.NoMemory) = status.NoMemory

-- how a run ended: its commands were all carried out, some of them refused or none, or it ended before, or broke off
abbrev pub told_status : Result Flow Broken → Bool → Status
told_status (Ok flow.Goes) refused = status_of_end (ended_by refused)
told_status (Ok (flow.Ends e)) refused = status_of_end e
told_status (Err why) refused = fault_status why

-- a run that came to its end leaves this of the input
abbrev pub LeavesBy : Type 0 → Result Flow Broken → Type 0
LeavesBy kept (Ok flow.Goes) = kept
LeavesBy kept (Ok (flow.Ends end.Done)) = kept
LeavesBy kept (Ok (flow.Ends end.Refusals)) = kept
LeavesBy kept (Ok (flow.Ends other)) = Unit {0}
LeavesBy kept (Err why) = Unit {0}

-- a run that a read broke off, and that no script was generated for
abbrev pub StopsAtRead : Option ℕ → Option (List ℕ) → Option (List ℕ) → List ℕ → Option (List ℕ) → (List ℕ → Ran) → Result Flow Broken → Type 0
StopsAtRead generate old new bytes left read (Err broken.Source) = (generate ≡ None) × EndsAtRead old new bytes left read
StopsAtRead generate old new bytes left read other = Unit {0}
