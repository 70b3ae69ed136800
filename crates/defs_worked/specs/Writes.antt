-- What the whole program is to write, by its definition.
use Rattle.std.specs.Prelude.{◌≡◌, ℕ, List, []}
use Rattle.soar_edge.specs.declared.filed.Filed.{Filed}
use Rattle.soar_edge.specs.declared.status.Status.{Status}
use Rattle.defs_soar.specs.Cycle.{run}
use Rattle.defs_soar.specs.Decision.{decided_by}
use Rattle.defs_soar.specs.Learning.{without_learning}
use Rattle.defs_run.specs.Transcripts.{transcript_at}
use Rattle.defs_run.specs.Whole.{whole_stage, whole_transcript}

-- with these words and files the input gives this text and status
abbrev pub WritesWith : List (List ℕ) → List Filed → List ℕ → List ℕ → Status → Type 0
WritesWith words files input text answer = whole_transcript words files input ≡ record { text = text; status = answer }

-- without words and files
abbrev pub Writes : List ℕ → List ℕ → Status → Type 0
Writes input text answer = WritesWith [] [] input text answer

-- by a program that is the same, but that learns nothing
abbrev pub WritesUnlearned : List ℕ → List ℕ → Status → Type 0
WritesUnlearned input text answer = transcript_at (record whole_stage { run = run decided_by without_learning }) [] [] input ≡ record { text = text; status = answer }
