-- Commands in a row, and the files that they ask for.
use Rattle.std.specs.Prelude.{ℕ, zero, suc, ◌^◌, Bool, true, false, ◌==◌, nat_lt, nat_le, List, [], ◌∷◌, length, Option, Some, None, if◌then◌else◌}
use Rattle.std.specs.Str.{bytes_eq}
use Rattle.soar_edge.specs.Cutting.{Cut, whole, unfinished, too_long}
use Rattle.soar_edge.specs.declared.status.Status.TheVariants as status
use Rattle.soar_edge.specs.declared.filed.Filed.{Filed}
use Rattle.defs_run.specs.Orders.{Refusal, unfinished_command, too_many_files, sources_too_deep, no_file}
use Rattle.defs_run.specs.Runs.{obeyed, Run, Ran, ended_as, ran, then_run, after_reply}
use Rattle.defs_run.specs.Sessions.{Sequel, goes_on, sources, quits, refused_by}
use Rattle.defs_run.specs.Stages.{Stage}

-- ---- files

abbrev pub file_named : List Filed → List ℕ → Option (List ℕ)
file_named [] name = None
file_named (f ∷ files) name = if bytes_eq f.name name then Some f.bytes else file_named files name

-- how the commands of a stream run, from the name that refusals show; whether the stream ends, or this is a front of it
abbrev pub Obeying : Type 0
Obeying = List ℕ → Bool → List ℕ → Run → Ran

abbrev pub refused_run : Refusal → List ℕ → ℕ → Run → Ran
refused_run refusal from number r = after_reply r (refused_by refusal from number r.session)

-- where this is the fetch that fails, the run ends before it
abbrev pub is_failing : Option ℕ → ℕ → Bool
is_failing None number = false
is_failing (Some n) number = n == number

-- a file of more than 64 MiB ends the run where it is asked for
abbrev pub file_run : Obeying → List ℕ → ℕ → List ℕ → Run → Option (List ℕ) → Ran
file_run obeying from number name r None = refused_run (no_file name) from number r
file_run obeying from number name r (Some bytes) = if nat_lt (2 ^ 26) (length bytes) then ran (ended_as status.TooLong r) else obeying name true bytes r

-- at most 1,000 files are asked for; the files, and the number of the fetch that fails, if one does
abbrev pub fetched : Obeying → Option ℕ → List Filed → List ℕ → ℕ → List ℕ → Run → Ran
fetched obeying fails files from number name r =
    if nat_le 1000 r.fetched then refused_run too_many_files from number r
    else if is_failing fails (suc r.fetched) then ran (ended_as status.FileFault r)
    else file_run obeying from number name (record r { fetched = suc r.fetched }) (file_named files name)

-- inside 16 files no further one is read
abbrev pub sourced : Option Obeying → Option ℕ → List Filed → List ℕ → ℕ → List ℕ → Run → Ran
sourced (Some obeying) fails files from number name r = fetched obeying fails files from number name r
sourced None fails files from number name r = if nat_le 1000 r.fetched then refused_run too_many_files from number r else refused_run sources_too_deep from number r

abbrev pub after_sequel : Option Obeying → Option ℕ → List Filed → List ℕ → ℕ → Sequel → Run → Ran
after_sequel inner fails files from number goes_on r = ran r
after_sequel inner fails files from number (sources name) r = sourced inner fails files from number name r
after_sequel inner fails files from number quits r = ran (ended_as (if r.refused then status.Refusals else status.Done) r)

-- ---- commands in a row

abbrev pub command_run : Stage → Option Obeying → Option ℕ → List Filed → List ℕ → ℕ → List ℕ → Run → Ran
command_run stage inner fails files from number text r =
    let reply = obeyed stage from number text r.session in
    then_run (after_reply r reply) (after_sequel inner fails files from number reply.sequel)

abbrev pub cut_run : Stage → Option Obeying → Option ℕ → List Filed → List ℕ → Cut → Run → Ran
cut_run stage inner fails files from (whole number text) r = command_run stage inner fails files from number text r
cut_run stage inner fails files from (unfinished number) r = refused_run unfinished_command from number r
cut_run stage inner fails files from too_long r = ran (ended_as status.TooLong r)

abbrev pub cuts_run : Stage → Option Obeying → Option ℕ → List Filed → List ℕ → List Cut → Run → Ran
cuts_run stage inner fails files from [] r = ran r
cuts_run stage inner fails files from (c ∷ cuts) r = then_run (cut_run stage inner fails files from c r) (cuts_run stage inner fails files from cuts)

-- the commands of a stream, inside which files may be read so many deep
abbrev pub obeying : Stage → Option ℕ → List Filed → ℕ → Obeying
obeying stage fails files zero from closed bytes r = cuts_run stage None fails files from (stage.cuts closed bytes) r
obeying stage fails files (suc depth) from closed bytes r = cuts_run stage (Some (obeying stage fails files depth)) fails files from (stage.cuts closed bytes) r
