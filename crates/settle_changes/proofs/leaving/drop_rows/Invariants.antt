use Rattle.std.proofs.Common.{◌≡◌, drop}
use Rattle.settle_changes.specs.Leaving.{rows_without}
use Rattle.settle_changes.proofs.leaving.drop_rows.Given as goal

abbrev pub invariant-ids : goal.invariant-ids
invariant-ids l = record l.prefs { rows = rows_without l.prefs.rows (drop l.id-index l.ids) } ≡ record l.initial.prefs { rows = rows_without l.initial.prefs.rows l.ids }
