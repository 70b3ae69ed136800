use Rattle.std.proofs.Common.{◌↔◌, ◌⊎◌, drop}
use Rattle.defs_match.specs.Laws.{IsIn}
use Rattle.node_agenda.specs.Turns.{TurnOf}
use Rattle.rete_beta.specs.Networks.{IsUnderAny}
use Rattle.rete_beta.proofs.changing.add_all_under.Given as goal

abbrev pub invariant-numbers : goal.invariant-numbers
invariant-numbers l = (t : TurnOf) → (IsUnderAny (drop l.number-index l.numbers) l.takers t ⊎ IsIn t l.agenda.keys) ↔ (IsUnderAny l.numbers l.takers t ⊎ IsIn t l.initial.agenda.keys)
