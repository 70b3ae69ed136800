use Rattle.std.proofs.Common.{◌≡◌, drop}
use Rattle.soar_settle.specs.Renewal.{not_rejected}
use Rattle.soar_settle.proofs.renewal.reject_all.Given as goal

abbrev pub invariant-made : goal.invariant-made
invariant-made l = record {
  limit : l.prefs.limit ≡ l.initial.prefs.limit;
  settled : l.prefs.settled ≡ l.initial.prefs.settled;
  rows : not_rejected (drop l.row-index l.made) l.prefs.rows ≡ not_rejected l.made l.initial.prefs.rows;
}
