-- What an agent of the code keeps of a state, part by part. Of the history it keeps what later steps need.
use Rattle.std.specs.Prelude.{map}
use Rattle.defs_match.specs.Rules.{rule_seen}
use Rattle.defs_soar.specs.Agents.{Agent, Counts, Queues}
use Rattle.defs_soar.specs.Standing.{HoldsWords, HoldsLetters, HoldsElements, HoldsLastTag, HoldsGoals, HoldsRows, HoldsInputs, HoldsLive}
use Rattle.defs_soar.specs.Standing.{HoldsQueues, HoldsRules, HoldsLastRule, HoldsChains, HoldsLearnedNumbers, HoldsCounts}
use Rattle.defs_soar.specs.Standing.{HoldsSettings, HoldsOutput, HoldsHalt}
use Rattle.input_queue.specs.Seen.{queued_seen}
use Rattle.live_firings.specs.Living.{live_seen}
use Rattle.wave_learning.specs.Hands.{learned_rule_seen}
use Rattle.wave_parts.specs.Remembers.{Remembers}
use Rattle.wave_parts.specs.Settings.{settings_seen}
use Rattle.wave_parts.specs.declared.parts.Parts.{Parts as PartsKept}

abbrev pub counts_of : PartsKept → Counts
counts_of a = record { cycles = a.cycles; waves = a.waves; firings = a.firings; retractions = a.retractions; learned = a.learned }

-- what waits: changes of the inputs, and random words
abbrev pub queues_of : PartsKept → Queues
queues_of a = record { input = map queued_seen a.queue; random = a.random }

-- the parts stand for the state
pub record Stands (a : PartsKept) (s : Agent) : Type 0 where
  pub words : HoldsWords a.table s
  pub letters : HoldsLetters a.letters s
  pub elements : HoldsElements a.memory.elements s
  pub last_tag : HoldsLastTag a.memory.last s
  pub goals : HoldsGoals a.goals s
  pub rows : HoldsRows a.prefs.rows s
  pub inputs : HoldsInputs a.inputs s
  pub live : HoldsLive (map live_seen a.live.list) s
  pub queues : HoldsQueues (queues_of a) s
  pub rules : HoldsRules (map rule_seen a.rules) s
  pub last_rule : HoldsLastRule a.last_rule s
  pub chains : HoldsChains (map learned_rule_seen a.chains) s
  pub learned_numbers : HoldsLearnedNumbers a.chunks a.justifications s
  pub counts : HoldsCounts (counts_of a) s
  pub settings : HoldsSettings (settings_seen a.settings) s
  pub output : HoldsOutput a.output s
  pub halted : HoldsHalt a.halted s
  pub remembers : Remembers a s.history
