use Rattle.std.proofs.Common.{◌≡◌, ◌++◌, take}
use Rattle.touched_tags.specs.Looked.{left_by}
use Rattle.touched_tags.proofs.changed_goals.add_left.Given as goal

abbrev pub invariant-ids : goal.invariant-ids
invariant-ids l = l.left ≡ l.initial.left ++ left_by l.others (take l.id-index l.ids)
