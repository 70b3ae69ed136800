-- The parts of a wave, one after the other, as the code goes through them.
use Rattle.std.specs.Prelude.{ℕ, not, List, [], ◌++◌, map, flat_map, filter, length}
use Rattle.defs_soar.specs.declared.preference.Preference.{Preference}
use Rattle.defs_soar.specs.Agents.{LiveFiring, Agent}
use Rattle.defs_soar.specs.Learning.{with_learning}
use Rattle.defs_soar.specs.Pending.{Work}
use Rattle.defs_soar.specs.Preferences.{rows_after, without_firings, with_rows}
use Rattle.defs_soar.specs.Resettling.{AgentStep, resettled}
use Rattle.defs_soar.specs.Trimming.{Remains, numbers_of}
use Rattle.defs_soar.specs.WaveAtHand.{Wave, all_fresh}
use Rattle.defs_soar.specs.WaveFirings.{first_wave, before_wave, with_firings}
use Rattle.defs_soar.specs.Waves.{live_of, rows_of_fresh, without_spent, counted, is_retracted}

-- what fired, before anything is learned
abbrev pub fired_in : Agent → Work → Wave
fired_in a work = with_firings (before_wave a) (first_wave a) work.fired

-- and what it comes to with what is learned
abbrev pub ended_in : Agent → Work → Wave
ended_in a work = with_learning (before_wave a) (fired_in a work)

abbrev pub rows_made_in : Wave → List Preference
rows_made_in w = flat_map rows_of_fresh (all_fresh w.entries)

abbrev pub live_after : List LiveFiring → List LiveFiring → Wave → List LiveFiring
live_after live gone w = filter (λ l. not (is_retracted gone l)) live ++ map live_of (all_fresh w.entries)

-- the agent when all has fired and nothing is settled yet
abbrev pub unsettled : Agent → List LiveFiring → Wave → Agent
unsettled a gone w = record a {
  names = w.names;
  program = without_spent gone w.program;
  counts = counted a.counts w gone;
  holding = record a.holding { rows = rows_after a.holding.rows (numbers_of gone) (rows_made_in w); live = live_after a.holding.live gone w };
}

-- what is held then
abbrev pub held_after : Agent → List LiveFiring → Wave → Remains
held_after a gone w = record {
  goals = a.holding.goals;
  rows = rows_after a.holding.rows (numbers_of gone) (rows_made_in w);
  inputs = a.holding.inputs;
  live = live_after a.holding.live gone w;
  removed = [];
}

abbrev pub settled_after : Agent → List LiveFiring → Wave → AgentStep
settled_after a gone w = resettled (unsettled a gone w) (held_after a gone w)

-- how many rows there were at most
abbrev pub rows_in_all : Agent → List LiveFiring → Wave → ℕ
rows_in_all a gone w = length (with_rows (without_firings a.holding.rows (numbers_of gone)) (rows_made_in w))
