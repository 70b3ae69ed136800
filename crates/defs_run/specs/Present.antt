-- A stage without learning: its commands are refused, and a run learns nothing.
use Rattle.std.specs.Prelude.{ℕ, Bool, true, false, List, Some, Result, Ok, Err, if◌then◌else◌}
use Rattle.soar_sym.specs.Words.{Texts}
use Rattle.soar_edge.specs.Cutting.{cuts_of}
use Rattle.soar_edge.specs.declared.filed.Filed.{Filed}
use Rattle.defs_soar.specs.Agents.{Agent}
use Rattle.defs_soar.specs.Cycle.{run}
use Rattle.defs_soar.specs.Decision.{decided_by}
use Rattle.defs_soar.specs.Learning.{without_learning}
use Rattle.defs_soar.specs.Phases.{Course}
use Rattle.defs_run.specs.Orders.{Order, print_chunks, chunk, explain, Refusal, unknown_command}
use Rattle.defs_run.specs.Stages.{Reading, Stage}
use Rattle.defs_run.specs.Transcripts.{Transcript, transcript_at, transcript_failing}
use Rattle.defs_run.specs.WholeReading.{read_whole}

-- ---- commands

-- those of learning are not built
abbrev pub is_built : Order → Bool
is_built print_chunks = false
is_built (chunk on) = false
is_built (explain name) = false
is_built other = true

-- an order that is not built is unknown, where the form of its command is right
abbrev pub built_order : Result Order Refusal → Result Order Refusal
built_order (Ok order) = if is_built order then Ok order else Err unknown_command
built_order (Err why) = Err why

abbrev pub built : Reading → Reading
built r = record { words = r.words; order = built_order r.order }

abbrev pub read_present : Texts → List ℕ → Reading
read_present words text = built (read_whole words text)

-- ---- running: without learning

abbrev pub run_present : ℕ → Agent → Course
run_present = run decided_by without_learning

-- ---- the stage

abbrev pub present_stage : Stage
present_stage = record { cuts = cuts_of; read = read_present; run = run_present }

-- the words of the command line, the files by name, and the input
abbrev pub present_transcript : List (List ℕ) → List Filed → List ℕ → Transcript
present_transcript words files input = transcript_at present_stage words files input

-- where the fetch of a number fails
abbrev pub failing_transcript : ℕ → List (List ℕ) → List Filed → List ℕ → Transcript
failing_transcript number words files input = transcript_failing present_stage (Some number) words files input
