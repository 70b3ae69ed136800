-- What is opened where a worked case is computed.
use Rattle.std.specs.Prelude.{ℕ}
use Rattle.std.specs.Fmt.{digits}
use Rattle.soar_rule.specs.Canonical.{canonical}
use Rattle.defs_soar.specs.Candidate.{general_form, literal_form}
use Rattle.defs_soar.specs.CandidateOf.{candidate_of}
use Rattle.defs_soar.specs.CarriedTests.{carried_tests}
use Rattle.defs_soar.specs.ConditionOrder.{ordered_grounds}
use Rattle.defs_soar.specs.Cycle.{after_input, after_output, cycle, run}
use Rattle.defs_soar.specs.Decision.{decided_alone, decided_by}
use Rattle.defs_soar.specs.Dependencies.{dependency_set}
use Rattle.defs_soar.specs.Learning.{with_learning, without_learning}
use Rattle.defs_soar.specs.Negations.{negations_taken_over}
use Rattle.defs_soar.specs.Outcome.{outcome_of}
use Rattle.defs_soar.specs.Pending.{pending_in}
use Rattle.defs_soar.specs.Phases.{phase}
use Rattle.defs_soar.specs.Resettling.{resettled}
use Rattle.defs_soar.specs.Results.{results_of}
use Rattle.defs_soar.specs.Trimming.{trimmed}
use Rattle.defs_soar.specs.WaveFirings.{with_firings}
use Rattle.defs_soar.specs.Waves.{wave_of}

unfoldable pub computing : ℕ
unfolding digits canonical general_form literal_form carried_tests ordered_grounds after_input after_output cycle run decided_by decided_alone dependency_set with_learning without_learning negations_taken_over outcome_of candidate_of pending_in results_of trimmed resettled with_firings wave_of phase
computing = 0
