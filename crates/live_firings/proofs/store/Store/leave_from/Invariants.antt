use Rattle.std.proofs.Common.{◌≡◌, length, vec_len, vec_capacity}
use Rattle.std.specs.Map.{values_of}
use Rattle.defs_soar.specs.Preferences.{without_firings}
use Rattle.live_firings.specs.Store.{HasRoom, IsStore, deep_numbers, told_rows}
use Rattle.live_firings.proofs.DropLemmas.{is_deep, without}
use Rattle.live_firings.proofs.store.Store.leave_from.Given as goal

abbrev pub invariant-rows : goal.invariant-rows
invariant-rows l = record {
  sound : IsStore l.self.rows.entries l.self.index l.self.next l.self.mark;
  room : HasRoom l.self.rows.entries (vec_len l.self.gone) (vec_capacity l.self.gone);
  told : told_rows l.self.mark l.self.gone.items l.self.rows.entries ≡ told_rows l.initial.self.mark l.initial.self.gone.items l.initial.self.rows.entries;
  same : without (is_deep l.depth) l.self.rows.entries ≡ without (is_deep l.depth) l.initial.self.rows.entries;
  limit : l.prefs.limit ≡ l.initial.prefs.limit;
  settled : l.prefs.settled ≡ l.initial.prefs.settled;
  left : without_firings l.prefs.rows (deep_numbers l.depth (values_of l.self.rows.entries)) ≡ without_firings l.initial.prefs.rows (deep_numbers l.depth (values_of l.initial.self.rows.entries));
}

abbrev pub decreases-rows : goal.decreases-rows
decreases-rows l = length l.self.rows.entries
