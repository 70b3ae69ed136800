-- That what an agent learns in a wave can be trusted.
use Rattle.defs_soar.specs.Agents.{Agent}
use Rattle.defs_soar.specs.Pending.{pending}
use Rattle.defs_soar.specs.WaveFirings.{before_wave, first_wave, with_firings}
use Rattle.learning_laws.specs.LawfulAgents.{IsLawfulAgent}
use Rattle.trace_lines.specs.declared.halting.Phase.{Phase}
use Rattle.wave_chunk_laws.specs.Chunks.{EachChunkGoesAgain}
use Rattle.cycle_phases.specs.Stands.{Stands}
use Rattle.cycle_phases.specs.Parts.{Parts as PartsKept}
use Rattle.cycle_phases.specs.Waving.{is_proposing}

-- In each lawful state that the parts stand for: what is pending has fired and nothing is learned yet; then, with local negations disallowed, each chunk that
-- the wave learns is given back by the check, matches at its grounds, makes its results again and replays, and is there with its explanation when the wave ends.
abbrev pub LearnsWell : PartsKept → Phase → Type 0
LearnsWell old phase =
    (s : Agent) → Stands old s → IsLawfulAgent s → EachChunkGoesAgain s (with_firings (before_wave s) (first_wave s) (pending (is_proposing phase) s).fired)
