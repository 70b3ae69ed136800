-- What a carrier of commands answers.
use Rattle.std.specs.Prelude.{◌≡◌, Bool, true, List, ℕ, Option, Some, None, Result, Ok, Err}
use Rattle.soar_edge.specs.Outside.{Appends, AppendsSome}
use Rattle.soar_edge.specs.declared.fault.PutFault.{PutFault}
use Rattle.defs_soar.specs.declared.limit.Which.{Which}
use Rattle.defs_run.specs.Orders.{Refusal, unfinished_command, too_many_files, sources_too_deep, no_file}
use Rattle.defs_run.specs.Runs.{Rendered, told_written}
use Rattle.defs_run.specs.Sessions.{Session, Reply, Sequel, goes_on, sources, quits}
use Rattle.command_runs.specs.declared.carrier.Answered.{Answered}
use Rattle.command_runs.specs.declared.carrier.Answered.TheVariants as answered
use Rattle.command_runs.specs.declared.carrier.Next.{Next}
use Rattle.command_runs.specs.declared.carrier.Next.TheVariants as next
use Rattle.command_runs.specs.declared.carrier.Unread.{Unread}
use Rattle.command_runs.specs.declared.carrier.Unread.TheVariants as unread

-- what a reply writes
abbrev pub written_by : Session → Reply → Rendered
written_by s reply = told_written s.agent.settings.watch s.mid_line reply.told

-- the session behind a reply that passed no limit
abbrev pub session_after : Session → Reply → Session
session_after s reply = record reply.session { mid_line = (written_by s reply).written.mid_line }

-- what follows a command
abbrev pub sequel_of : Next → Sequel
sequel_of next.Command = goes_on
sequel_of (next.File name) = sources name
sequel_of next.End = quits

-- the refusal, with the name of the file
abbrev pub refusal_of : Unread → List ℕ → Refusal
refusal_of unread.Unfinished name = unfinished_command
refusal_of unread.NoFile name = no_file name
refusal_of unread.TooDeep name = sources_too_deep
refusal_of unread.TooMany name = too_many_files

-- the reply passed no limit, and what carries commands out stands for the session behind it
pub record Passed (stands : Session → Type 0) (s : Session) (reply : Reply) (refused : Bool) (sequel : Sequel) : Type 0 where
  pub session : stands (session_after s reply)
  pub within : (written_by s reply).limit ≡ None
  pub told : refused ≡ reply.refused
  pub follows : reply.sequel ≡ sequel

abbrev pub IsAnswered : (Session → Type 0) → Session → Reply → Answered → Type 0
IsAnswered stands s reply (answered.Went refused following) = Passed stands s reply refused (sequel_of following)
IsAnswered stands s reply answered.Stopped = (limit : Which) × ((written_by s reply).limit ≡ Some limit)

-- all of what a command says is written, or a front of it where that fails
abbrev pub Speaks : (Session → Type 0) → Session → Reply → Option (List ℕ) → Option (List ℕ) → Result Answered PutFault → Type 0
Speaks stands s reply before now (Ok answer) = IsAnswered stands s reply answer × Appends before now (written_by s reply).written.text
Speaks stands s reply before now (Err e) = AppendsSome before now (written_by s reply).written.text

-- so it is with what is refused
abbrev pub Refuses : {T : Type 0} → (Session → Type 0) → Session → Reply → Option (List ℕ) → Option (List ℕ) → Result T PutFault → Type 0
Refuses stands s reply before now (Ok x) = Passed stands s reply true goes_on × Appends before now (written_by s reply).written.text
Refuses stands s reply before now (Err e) = AppendsSome before now (written_by s reply).written.text

-- it can take a command again behind one that passed no limit
abbrev pub IsReadyAfter : {E : Type 0} → Type 0 → Result Answered E → Type 0
IsReadyAfter ready (Ok (answered.Went refused following)) = ready
IsReadyAfter ready (Ok answered.Stopped) = Unit {0}
IsReadyAfter ready (Err e) = Unit {0}
