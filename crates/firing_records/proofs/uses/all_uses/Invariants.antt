use Rattle.std.proofs.Common.{◌≡◌, take}
use Rattle.firing_records.specs.Recorded.{all_uses_before, standing}
use Rattle.firing_records.proofs.uses.all_uses.Given as goal

abbrev pub invariant-tags : goal.invariant-tags
invariant-tags l = l.used ≡ all_uses_before (standing l.before) l.depth (take l.tag-index l.tags)
