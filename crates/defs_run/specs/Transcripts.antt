-- What a run of the program writes at any stage, and how it ends.
use Rattle.std.specs.Prelude.{ℕ, ◌^◌, true, false, nat_lt, List, [], ◌∷◌, take, length, Option, Some, None, if◌then◌else◌, codes}
use Rattle.soar_edge.specs.declared.status.Status.{Status}
use Rattle.soar_edge.specs.declared.status.Status.TheVariants as status
use Rattle.soar_edge.specs.declared.filed.Filed.{Filed}
use Rattle.defs_run.specs.CommandLine.{Options, options_of, script_of}
use Rattle.defs_run.specs.Runs.{Run, Ran, ended_as, ran, then_run}
use Rattle.defs_run.specs.Sessions.{first_session}
use Rattle.defs_run.specs.Sources.{fetched, obeying}
use Rattle.defs_run.specs.Stages.{Stage}

-- standard input, and what the files of the command line are refused under
abbrev pub standard_input : List ℕ
standard_input = codes "-"

-- the files of the command line are read as `source` reads them
abbrev pub files_run : Stage → Option ℕ → List Filed → List (List ℕ) → Run → Ran
files_run stage fails files [] r = ran r
files_run stage fails files (name ∷ names) r = then_run (fetched (obeying stage fails files 15) fails files standard_input 0 name r) (files_run stage fails files names)

-- of an input of more than 64 MiB the whole commands within its first 64 MiB run
abbrev pub input_run : Stage → Option ℕ → List Filed → List ℕ → Run → Ran
input_run stage fails files input r =
    if nat_lt (2 ^ 26) (length input) then then_run (obeying stage fails files 16 standard_input false (take (2 ^ 26) input) r) (λ next. ran (ended_as status.TooLong next))
    else obeying stage fails files 16 standard_input true input r

pub record Transcript : Type 0 where
  pub text : List ℕ
  pub status : Status

-- a run that came to its end: some command was refused, or none
abbrev pub status_of : Run → Option Status → Status
status_of r (Some s) = s
status_of r None = if r.refused then status.Refusals else status.Done

abbrev pub transcribed : Ran → Transcript
transcribed r = record { text = r.text; status = status_of r.run r.run.ended }

abbrev pub first_run : ℕ → Run
first_run watch = record { session = first_session watch; refused = false; fetched = 0; ended = None }

abbrev pub with_options : Stage → Option ℕ → List Filed → List ℕ → Options → Transcript
with_options stage fails files input o =
    let start = first_run (elim (o.watch) [ None ↦ 1 | Some n ↦ n ]) in
    elim (o.generate) [
      | Some n ↦ transcribed (obeying stage fails files 16 standard_input true (script_of n) start)
      | None ↦ transcribed (then_run (files_run stage fails files o.files start) (input_run stage fails files input))
    ]

abbrev pub usage_text : List ℕ
usage_text = codes "usage: soar_app [--watch N] [--generate N] [FILE]...\n"

abbrev pub usage : Transcript
usage = record { text = usage_text; status = status.Usage }

abbrev pub by_options : Stage → Option ℕ → List Filed → List ℕ → Option Options → Transcript
by_options stage fails files input None = usage
by_options stage fails files input (Some o) = with_options stage fails files input o

-- where the fetch of a number fails, the run ends there; the words of the command line, the files by name, and the input
abbrev pub transcript_failing : Stage → Option ℕ → List (List ℕ) → List Filed → List ℕ → Transcript
transcript_failing stage fails words files input = by_options stage fails files input (options_of words)

-- where no fetch fails
abbrev pub transcript_at : Stage → List (List ℕ) → List Filed → List ℕ → Transcript
transcript_at stage words files input = transcript_failing stage None words files input
