use Rattle.std.proofs.Common.{◌≡◌, ◌++◌, take}
use Rattle.settle_changes.specs.Naming.{slot_names}
use Rattle.settle_changes.proofs.naming.add_slots.Given as goal

abbrev pub invariant-ids : goal.invariant-ids
invariant-ids l = l.names ≡ l.initial.names ++ slot_names l.prefs.rows (take l.id-index l.ids)
