use Rattle.std.proofs.Common.{◌≡◌, drop}
use Rattle.node_agenda.specs.Turns.{with_turns}
use Rattle.node_agenda.proofs.agenda.add_turns.Given as goal

abbrev pub invariant-turns : goal.invariant-turns
invariant-turns l = with_turns (drop l.turn-index l.turns) l.agenda.keys ≡ with_turns l.turns l.initial.agenda.keys
