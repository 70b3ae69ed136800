-- The whole program, once all commands are built.
use Rattle.std.specs.Prelude.{ℕ, List}
use Rattle.soar_edge.specs.Cutting.{cuts_of}
use Rattle.soar_edge.specs.declared.filed.Filed.{Filed}
use Rattle.defs_soar.specs.Cycle.{run}
use Rattle.defs_soar.specs.Decision.{decided_by}
use Rattle.defs_soar.specs.Learning.{with_learning}
use Rattle.defs_run.specs.Stages.{Stage}
use Rattle.defs_run.specs.Transcripts.{Transcript, transcript_at}
use Rattle.defs_run.specs.WholeReading.{read_whole}

abbrev pub whole_stage : Stage
whole_stage = record { cuts = cuts_of; read = read_whole; run = run decided_by with_learning }

-- the words of the command line, the files by name, and the input
unfoldable pub whole_transcript : List (List ℕ) → List Filed → List ℕ → Transcript
whole_transcript words files input = transcript_at whole_stage words files input
