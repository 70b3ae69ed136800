use Rattle.std.proofs.Common.{◌≡◌, suc, length}
use Rattle.goal_trimming.specs.Doubted.{AreDoubted}
use Rattle.goal_trimming.specs.Held.{held_by, trimmed_held}
use Rattle.settle_changes.specs.Rest.{GrowsBy, IsTracked}
use Rattle.goal_trimming.proofs.trimming.trim.Given as goal

abbrev pub invariant-rounds : goal.invariant-rounds
invariant-rounds l = record {
  fits : suc (length l.depends) ≡ length l.goals;
  rest : trimmed_held l.memory.elements (held_by l.goals l.depends l.prefs l.inputs l.live.list)
      ≡ trimmed_held l.memory.elements (held_by l.initial.goals l.initial.depends l.initial.prefs l.initial.inputs l.initial.live.list);
  told : l.live.told ≡ l.initial.live.told;
  tracked : IsTracked l.prefs l.inputs l.changed l.kept;
  grows : GrowsBy l.initial.touched l.touched l.initial.kept l.kept;
  doubted : AreDoubted l.depends l.memory.elements l.initial.kept.triples l.doubted;
}

abbrev pub decreases-rounds : goal.decreases-rounds
decreases-rounds l = length l.goals
