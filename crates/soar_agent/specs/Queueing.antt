-- Queueing a change of the inputs, once its operands are symbols.
use Rattle.std.specs.Prelude.{Bool, [], ◌∷◌, ◌++◌}
use Rattle.soar_sym.specs.declared.symbol.Triple.{Triple}
use Rattle.defs_soar.specs.Agents.{Agent}
use Rattle.defs_run.specs.Sessions.{Session, Reply, quiet, with_agent}

-- the agent with a change that joins the queue
abbrev pub with_change : Bool → Triple → Agent → Agent
with_change adds triple a = record a { queues = record a.queues { input = a.queues.input ++ record { adds = adds; triple = triple } ∷ [] } }

abbrev pub queues_triple : Bool → Triple → Session → Reply
queues_triple adds triple s = quiet (with_agent s (with_change adds triple s.agent))
