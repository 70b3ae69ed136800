use Rattle.std.proofs.Common.{◌≡◌, length, vec_len, vec_capacity}
use Rattle.live_firings.specs.Store.{HasRoom, IsStore, told_rows}
use Rattle.live_firings.proofs.DropLemmas.{of_number, without}
use Rattle.live_firings.proofs.store.Store.drop_number.Given as goal

abbrev pub invariant-rows : goal.invariant-rows
invariant-rows l = record {
  sound : IsStore l.self.rows.entries l.self.index l.self.next l.self.mark;
  room : HasRoom l.self.rows.entries (vec_len l.self.gone) (vec_capacity l.self.gone);
  told : told_rows l.self.mark l.self.gone.items l.self.rows.entries ≡ told_rows l.initial.self.mark l.initial.self.gone.items l.initial.self.rows.entries;
  same : without (of_number l.number) l.self.rows.entries ≡ without (of_number l.number) l.initial.self.rows.entries;
}

abbrev pub decreases-rows : goal.decreases-rows
decreases-rows l = length l.self.rows.entries
