-- What is opened where a run is computed.
use Rattle.std.specs.Prelude.{ℕ}
use Rattle.std.specs.Char.{encode_utf8}
use Rattle.std.specs.Fmt.{digits}
use Rattle.std.specs.Str.{is_utf8, chars}
use Rattle.std.specs.Str.Lossy.{utf8_valid_len}
use Rattle.soar_edge.specs.Cutting.{cuts_of}
use Rattle.soar_rule.specs.Canonical.{canonical}
use Rattle.soar_rule.specs.Checking.{ordered}
use Rattle.soar_rule.specs.MatchOrder.{taken_in_order}
use Rattle.defs_text.specs.Lexing.{lexed}
use Rattle.defs_read.specs.Expansion.{production_of}
use Rattle.defs_read.specs.Printing.{production_text}
use Rattle.defs_read.specs.Reading.{part_at}
use Rattle.defs_read.specs.ReadingActions.{tree_of}
use Rattle.defs_read.specs.ReadingValues.{term_at}
use Rattle.defs_soar.specs.Candidate.{general_form, literal_form}
use Rattle.defs_soar.specs.CandidateOf.{candidate_of}
use Rattle.defs_soar.specs.CarriedTests.{carried_tests}
use Rattle.defs_soar.specs.ConditionOrder.{ordered_grounds}
use Rattle.defs_soar.specs.Cycle.{after_input, after_output, cycle, run}
use Rattle.defs_soar.specs.Decision.{decided_alone, decided_by}
use Rattle.defs_soar.specs.Dependencies.{dependency_set}
use Rattle.defs_soar.specs.Learning.{with_learning, without_learning}
use Rattle.defs_soar.specs.Negations.{negations_taken_over}
use Rattle.defs_soar.specs.Outcome.{outcome_of}
use Rattle.defs_soar.specs.Pending.{pending_in}
use Rattle.defs_soar.specs.Phases.{phase}
use Rattle.defs_soar.specs.Resettling.{resettled}
use Rattle.defs_soar.specs.Results.{results_of}
use Rattle.defs_soar.specs.Texts.{chain_lines}
use Rattle.defs_soar.specs.Trace.{pieces_of}
use Rattle.defs_soar.specs.Trimming.{trimmed}
use Rattle.defs_soar.specs.WaveFirings.{with_firings}
use Rattle.defs_soar.specs.Waves.{wave_of}
use Rattle.defs_run.specs.CommandLine.{script_of}
use Rattle.defs_run.specs.Runs.{obeyed}
use Rattle.defs_run.specs.Whole.{whole_transcript}
use Rattle.defs_run.specs.WholeReading.{read_whole}

unfoldable pub computing : ℕ
unfolding encode_utf8 digits is_utf8 chars utf8_valid_len cuts_of canonical ordered taken_in_order lexed production_of production_text tree_of part_at term_at general_form literal_form carried_tests ordered_grounds after_input after_output cycle run decided_by decided_alone dependency_set with_learning without_learning negations_taken_over outcome_of candidate_of pending_in results_of chain_lines pieces_of trimmed resettled with_firings wave_of phase script_of obeyed whole_transcript read_whole
computing = 0
