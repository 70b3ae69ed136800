use Rattle.std.proofs.Common.{◌≡◌, ◌≤◌, ◌++◌, drop, length}
use Rattle.defs_soar.specs.Preferences.{with_rows}
use Rattle.defs_soar.specs.Waves.{rows_added}
use Rattle.soar_settle.proofs.renewal.add_all.Given as goal

abbrev pub invariant-made : goal.invariant-made
invariant-made l = record {
  limit : l.prefs.limit ≡ l.initial.prefs.limit;
  settled : l.prefs.settled ≡ l.initial.prefs.settled;
  room : length l.prefs.rows ≤ l.prefs.limit;
  rows : with_rows l.prefs.rows (drop l.row-index l.made) ≡ with_rows l.initial.prefs.rows l.made;
  noted : l.added ++ rows_added l.prefs.rows (drop l.row-index l.made) ≡ l.initial.added ++ rows_added l.initial.prefs.rows l.made;
}
