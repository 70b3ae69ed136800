use Rattle.std.proofs.Common.{refl}
use Rattle.agent_laws.proofs.worked_history.Goals as goal

pub returns : goal.returns
returns c = record { reached = refl; part = record { apart = (refl, (refl, tt)); from_history = (refl, (refl, tt)); reaches_all = refl }; twice = refl }
