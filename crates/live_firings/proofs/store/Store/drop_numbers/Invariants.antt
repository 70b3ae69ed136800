use Rattle.std.proofs.Common.{◌≡◌, drop, vec_len, vec_capacity}
use Rattle.std.specs.Map.{values_of}
use Rattle.live_firings.specs.Living.{without_numbers}
use Rattle.live_firings.specs.Store.{HasRoom, IsStore, told_rows}
use Rattle.live_firings.proofs.store.Store.drop_numbers.Given as goal

abbrev pub invariant-numbers : goal.invariant-numbers
invariant-numbers l = record {
  sound : IsStore l.self.rows.entries l.self.index l.self.next l.self.mark;
  room : HasRoom l.self.rows.entries (vec_len l.self.gone) (vec_capacity l.self.gone);
  told : told_rows l.self.mark l.self.gone.items l.self.rows.entries ≡ told_rows l.initial.self.mark l.initial.self.gone.items l.initial.self.rows.entries;
  rows : without_numbers (drop l.number-index l.numbers) (values_of l.self.rows.entries) ≡ without_numbers l.numbers (values_of l.initial.self.rows.entries);
}
