-- Rules that are learned can be matched with their conditions as they stand.
use Rattle.std.specs.Prelude.{◌≡◌, ◌⊎◌, true}
use Rattle.soar_rule.specs.AsItStands.{can_be_matched}
use Rattle.defs_match.specs.Rules.{RuleOf}
use Rattle.defs_soar.specs.Agents.{Agent}
use Rattle.defs_soar.specs.Laws.{IsIn}
use Rattle.defs_soar.specs.Learning.{with_learning}
use Rattle.defs_soar.specs.WaveAtHand.{Wave}
use Rattle.defs_soar.specs.WaveFirings.{before_wave}
use Rattle.learning_laws.specs.LawfulAgents.{IsLawfulAgent}
use Rattle.learning_laws.specs.LawfulWaves.{IsLawfulWave}

abbrev pub LearnedCanBeMatched : Type 0
LearnedCanBeMatched =
    (a : Agent) (w : Wave) (rule : RuleOf) → IsLawfulAgent a → IsLawfulWave a w → IsIn rule (with_learning (before_wave a) w).program.rules
    → IsIn rule w.program.rules ⊎ (can_be_matched rule.production ≡ true)
