-- The transcript of the whole program where a fetch fails.
use Rattle.std.specs.Prelude.{ℕ, List, Some}
use Rattle.soar_edge.specs.declared.filed.Filed.{Filed}
use Rattle.defs_run.specs.Transcripts.{Transcript, transcript_failing}
use Rattle.defs_run.specs.Whole.{whole_stage}

-- the fetch of this number
abbrev pub failing_transcript : ℕ → List (List ℕ) → List Filed → List ℕ → Transcript
failing_transcript number words files input = transcript_failing whole_stage (Some number) words files input
