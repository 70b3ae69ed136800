-- Queued changes as the definitions have them.
use Rattle.soar_sym.specs.declared.symbol.Triple.{Triple}
use Rattle.defs_soar.specs.Agents.{Queued as QueuedOf}
use Rattle.input_queue.specs.declared.queued.Queued.{Queued}

-- a change as the definitions have it
abbrev pub queued_seen : Queued → QueuedOf
queued_seen q = record { adds = q.adds; triple = q.triple }

-- what a change adds or removes
abbrev pub triple_queued : Queued → Triple
triple_queued q = q.triple
