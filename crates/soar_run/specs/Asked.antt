-- What the words of the command line ask for.
use Rattle.std.specs.Prelude.{◌≡◌, ℕ, List, Option, Some, None, Result, Ok, Err}
use Rattle.soar_edge.specs.declared.filed.Filed.{Filed}
use Rattle.soar_edge.specs.declared.fault.PutFault.{PutFault}
use Rattle.soar_edge.specs.declared.fault.PutFault.TheVariants as put
use Rattle.soar_edge.specs.declared.status.Status.{Status}
use Rattle.soar_edge.specs.declared.status.Status.TheVariants as status
use Rattle.defs_run.specs.CommandLine.{Options, options_of}
use Rattle.command_runs.specs.Answers.{EndsAtRead, IsLeft}
use Rattle.command_runs.specs.Lengths.{IsTooLong}
use Rattle.command_runs.specs.Whole.{front_run}

-- what a run leaves of the input; words that are not of the form leave it untouched
abbrev pub IsLeftFor : List Filed → List ℕ → Option (List ℕ) → Option Options → Type 0
IsLeftFor stock bytes left None = left ≡ Some bytes
IsLeftFor stock bytes left (Some o) = IsLeft stock o bytes left

abbrev pub IsLeftBy : List (List ℕ) → List Filed → List ℕ → Option (List ℕ) → Type 0
IsLeftBy words stock bytes left = IsLeftFor stock bytes left (options_of words)

-- what was written before a read that failed
abbrev pub EndsAtReadFor : List Filed → Option (List ℕ) → Option (List ℕ) → List ℕ → Option (List ℕ) → Option Options → Type 0
EndsAtReadFor stock old new bytes left None = ⊥
EndsAtReadFor stock old new bytes left (Some o) = (o.generate ≡ None) × EndsAtRead old new bytes left (λ taken. front_run stock taken o)

abbrev pub EndsAtReadBy : List (List ℕ) → List Filed → Option (List ℕ) → Option (List ℕ) → List ℕ → Option (List ℕ) → Type 0
EndsAtReadBy words stock old new bytes left = EndsAtReadFor stock old new bytes left (options_of words)

-- whether something that it runs is too long
abbrev pub IsLongBy : List Filed → List ℕ → Option Options → Type 0
IsLongBy stock bytes None = ⊥
IsLongBy stock bytes (Some o) = IsTooLong o.generate stock bytes

abbrev pub IsTooLongBy : List (List ℕ) → List Filed → List ℕ → Type 0
IsTooLongBy words stock bytes = IsLongBy stock bytes (options_of words)

-- how a run ends that writes the usage line alone
abbrev pub usage_status : Result (Unit {0}) PutFault → Status
usage_status (Ok done) = status.Usage
usage_status (Err put.Failed) = status.WriteFault
usage_status (Err put.NoMemory) = status.NoMemory
