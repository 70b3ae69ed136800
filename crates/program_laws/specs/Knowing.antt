-- All that is told of a wave, of its rules and of their explanations is in the table of words.
use Rattle.std.specs.Prelude.{List, flat_map}
use Rattle.soar_sym.specs.Words.{IsKnown, Texts}
use Rattle.soar_rule.specs.Symbols.{AreKnown}
use Rattle.chain_texts.specs.Shown.{shown_symbols}
use Rattle.defs_soar.specs.Agents.{Agent, Learnt}
use Rattle.defs_soar.specs.History.{FiringOf}
use Rattle.defs_soar.specs.Laws.{IsIn}
use Rattle.defs_soar.specs.Learning.{with_learning}
use Rattle.defs_soar.specs.WaveAtHand.{all_fresh, Fresh, Wave}
use Rattle.defs_soar.specs.WaveFirings.{before_wave}
use Rattle.defs_soar.specs.Waves.{entry_events}
use Rattle.learning_laws.specs.LawfulAgents.{firings_of_agent, IsLawfulAgent}
use Rattle.learning_laws.specs.LawfulWaves.{IsLawfulWave}
use Rattle.soar_settle.specs.Known.{AreRulesKnown}
use Rattle.trace_laws.specs.Events.{AreEventsKnown}

-- the symbols that each explanation shows are known
abbrev pub AreChainsKnown : Texts → List Learnt → Type 0
AreChainsKnown words chains = (l : Learnt) → IsIn l chains → AreKnown words (shown_symbols l.chain)

-- the names of the rules of firings are known
abbrev pub AreNamed : Texts → List FiringOf → Type 0
AreNamed words firings = (f : FiringOf) → IsIn f firings → IsKnown words f.name

pub record IsKnownWave (w : Wave) : Type 0 where
  pub rules : AreRulesKnown w.names.words w.program.rules
  pub chains : AreChainsKnown w.names.words w.program.chains
  pub events : AreEventsKnown w.names.words (flat_map entry_events w.entries)
  pub names : (x : Fresh) → IsIn x (all_fresh w.entries) → IsKnown w.names.words x.firing.name

abbrev pub LearningIsKnown : Type 0
LearningIsKnown =
    (a : Agent) (w : Wave) → IsLawfulAgent a → IsLawfulWave a w → AreNamed w.names.words (firings_of_agent a) → IsKnownWave w → IsKnownWave (with_learning (before_wave a) w)
