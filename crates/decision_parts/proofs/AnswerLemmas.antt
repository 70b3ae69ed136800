-- What an error says of a step does not depend on what else might have been answered.
use Rattle.std.proofs.Common.{ℕ, Bool, List, Err}
use Rattle.defs_soar.specs.Resettling.{AgentStep}
use Rattle.soar_settle.specs.declared.stop.Stop.{Stop}
use Rattle.soar_settle.specs.declared.stop.Stop.TheVariants as stop
use Rattle.wave_parts.specs.declared.parts.Parts.{Parts as PartsKept}
use Rattle.decision_parts.specs.Stepping.{GoesStep}

pub other_answer : (T U : Type 0) (watch : ℕ) (mid new_mid : Bool) (x : AgentStep) (new : PartsKept) (before after : List ℕ) (why : Stop)
    → GoesStep {T = T} watch mid x new new_mid before after (Err why) → GoesStep {T = U} watch mid x new new_mid before after (Err why)
other_answer T U watch mid new_mid x new before after (stop.Limit limit) h = h
other_answer T U watch mid new_mid x new before after stop.NoMemory h = tt
