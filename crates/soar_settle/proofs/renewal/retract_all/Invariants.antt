use Rattle.std.proofs.Common.{◌≡◌, drop}
use Rattle.defs_soar.specs.Preferences.{without_firings}
use Rattle.soar_settle.proofs.renewal.retract_all.Given as goal

abbrev pub invariant-gone : goal.invariant-gone
invariant-gone l = record {
  limit : l.prefs.limit ≡ l.initial.prefs.limit;
  settled : l.prefs.settled ≡ l.initial.prefs.settled;
  rows : without_firings l.prefs.rows (drop l.number-index l.gone) ≡ without_firings l.initial.prefs.rows l.gone;
}
