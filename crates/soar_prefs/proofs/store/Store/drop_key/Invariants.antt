use Rattle.std.proofs.Common.{◌≡◌, length, vec_len, vec_capacity}
use Rattle.soar_prefs.specs.Store.{HasRoom, IsStore, undone}
use Rattle.soar_prefs.proofs.StoreLemmas.{without}
use Rattle.soar_prefs.proofs.store.Store.drop_key.Given as goal

abbrev pub invariant-rows : goal.invariant-rows
invariant-rows l = record {
  sound : IsStore l.self.rows.entries l.self.numbers l.self.next;
  room : HasRoom l.self.rows.entries (vec_len l.self.journal) (vec_capacity l.self.journal);
  settled : undone l.self.journal.items l.self.rows.entries ≡ undone l.initial.self.journal.items l.initial.self.rows.entries;
  same : without l.key l.self.rows.entries ≡ without l.key l.initial.self.rows.entries;
}

abbrev pub decreases-rows : goal.decreases-rows
decreases-rows l = length l.self.rows.entries
