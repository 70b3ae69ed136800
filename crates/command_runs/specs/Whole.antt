-- The whole run: the files of the command line and then the input, or a script in their place.
use Rattle.std.specs.Prelude.{◌≡◌, ℕ, Bool, true, false, List, Option, Some, None}
use Rattle.soar_edge.specs.declared.filed.Filed.{Filed}
use Rattle.defs_run.specs.CommandLine.{Options, script_of}
use Rattle.defs_run.specs.Whole.{whole_stage}
use Rattle.defs_run.specs.Runs.{Run, Ran, then_run}
use Rattle.defs_run.specs.Sessions.{Session, first_session}
use Rattle.defs_run.specs.Sources.{obeying, sourced}
use Rattle.defs_run.specs.Transcripts.{Transcript, files_run, first_run, input_run, standard_input, with_options}
use Rattle.command_runs.specs.Following.{inner_of}

-- a file of the command line
unfoldable pub file_of : Option ℕ → List Filed → List ℕ → Run → Ran
file_of fails stock name r = sourced (inner_of fails stock 16) fails stock standard_input 0 name r

unfoldable pub files_of : Option ℕ → List Filed → List (List ℕ) → Run → Ran
files_of fails stock names r = files_run whole_stage fails stock names r

unfoldable pub input_of : Option ℕ → List Filed → List ℕ → Run → Ran
input_of fails stock input r = input_run whole_stage fails stock input r

-- the commands of standard input, of which there are more or not
unfoldable pub commands_of : Option ℕ → List Filed → Bool → List ℕ → Run → Ran
commands_of fails stock closed bytes r = obeying whole_stage fails stock 16 standard_input closed bytes r

-- a script of so many items, or the files and the input
abbrev pub whole_run : Option ℕ → List Filed → List ℕ → Option ℕ → List (List ℕ) → Run → Ran
whole_run fails stock input (Some n) names r = commands_of fails stock true (script_of n) r
whole_run fails stock input None names r = then_run (files_of fails stock names r) (input_of fails stock input)

-- the watch level, 1 where none is asked for
abbrev pub level_of : Option ℕ → ℕ
level_of None = 1
level_of (Some n) = n

-- the transcript of what the words ask for
unfoldable pub whole_transcript : Option ℕ → List Filed → List ℕ → Options → Transcript
whole_transcript fails stock input o = with_options whole_stage fails stock input o

-- the run that the words ask for
abbrev pub asked_run : Option ℕ → List Filed → List ℕ → Options → Ran
asked_run fails stock input o = whole_run fails stock input o.generate o.files (first_run (level_of o.watch))

-- what is asked for, and what carries commands out stands for the first session
pub record IsAsked (stands : Session → Type 0) (o : Options) (generate : Option ℕ) (names : List (List ℕ)) : Type 0 where
  pub script : generate ≡ o.generate
  pub files : names ≡ o.files
  pub session : stands (first_session (level_of o.watch))

-- whether the run comes to the input: no script is generated, and no file ends the run
abbrev pub is_open : Ran → Bool
is_open x = elim (x.run.ended) [ None ↦ true | Some s ↦ false ]

abbrev pub comes_along : List Filed → Option ℕ → List (List ℕ) → Run → Bool
comes_along stock None names r = is_open (files_of None stock names r)
comes_along stock (Some n) names r = false

unfoldable pub comes_to_input : List Filed → Options → Bool
comes_to_input stock o = comes_along stock o.generate o.files (first_run (level_of o.watch))

-- the files, and the whole commands within a front of the input
unfoldable pub front_run : List Filed → List ℕ → Options → Ran
front_run stock taken o = then_run (files_of None stock o.files (first_run (level_of o.watch))) (commands_of None stock false taken)
