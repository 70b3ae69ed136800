use Rattle.std.proofs.Common.{◌≡◌, map, filter}
use Rattle.std.specs.Vec.Iter.{into_iter_items}
use Rattle.defs_match.specs.Rules.{rule_seen}
use Rattle.pending_work.specs.Firables.{AreBound}
use Rattle.pending_work.specs.Open.{can_fire_now}
use Rattle.pending_work.proofs.candidates.ready.Given as goal

abbrev pub invariant-unfired : goal.invariant-unfired
invariant-unfired l = record {
  bound : AreBound (map rule_seen l.rules) (into_iter_items l.instance-iterator);
  ready : l.ready ≡ filter (can_fire_now l.proposing (map rule_seen l.rules) l.memory.elements l.goals) l.yielded;
}
