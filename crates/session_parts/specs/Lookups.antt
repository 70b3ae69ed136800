-- The session in which operands are looked up.
use Rattle.std.specs.Prelude.{map}
use Rattle.defs_run.specs.Sessions.{Session}
use Rattle.command_labels.specs.Found.{label_seen}
use Rattle.session_parts.specs.declared.lookup.Lookup.{Lookup}

-- all else in it is as it may be
abbrev pub session_with : Lookup → Session → Session
session_with l s = record s {
  agent = record s.agent {
    names = record s.agent.names { words = l.table.now; letters = l.letters.now };
    holding = record s.agent.holding { elements = l.memory.now.elements; goals = l.goals.now };
  };
  labels = map label_seen l.labels.now;
}
