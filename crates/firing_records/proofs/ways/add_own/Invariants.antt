use Rattle.std.proofs.Common.{◌≡◌, drop}
use Rattle.defs_soar.specs.Uses.{own_uses}
use Rattle.firing_records.proofs.ways.add_own.Given as goal

abbrev pub invariant-goals : goal.invariant-goals
invariant-goals l = record {
  used : l.used ≡ l.initial.used;
  rest : own_uses l.above (drop l.goal-index l.goals) l.element ≡ own_uses l.initial.above l.goals l.element;
}
