use Rattle.std.proofs.Common.{◌+◌, ◌∙◌, List, ℕ, drop, slice_index_or, sym, ap}
use Rattle.std.specs.Map.{values_of}
use Rattle.std.proofs.lemmas.List.{at_drop_more, at_drop_all}
use Rattle.live_firings.specs.Living.{without_numbers}
use Rattle.live_firings.proofs.DropLemmas.{none_without, one_without}
use Rattle.live_firings.proofs.store.Store.drop_numbers.Goals as goal

pub numbers-preserved : goal.numbers-preserved
numbers-preserved c =
    let numbers = c.args.numbers.now in
    let i = c.numbers.number-index in
    let n = slice_index_or numbers i 0 in
    let live = values_of c.numbers.self.rows.entries in
    let left = λ (ms : List ℕ). without_numbers ms live in
    record {
      sound = c.drop_number.ensures.sound;
      room = c.drop_number.ensures.room;
      told = c.drop_number.ensures.told ∙ c.numbers.invariant.told;
      rows = ap (without_numbers (drop (i + 1) numbers)) c.drop_number.ensures.rows ∙ one_without n (drop (i + 1) numbers) live
          ∙ sym (at_drop_more left numbers i 0 c.numbers-test.true) ∙ c.numbers.invariant.rows;
    }

pub returns-clause-rows : goal.returns-clause-rows
returns-clause-rows c =
    let live = values_of c.numbers.self.rows.entries in
    let left = λ (ms : List ℕ). without_numbers ms live in
    sym (none_without live) ∙ sym (at_drop_all left c.args.numbers.now c.numbers.number-index c.numbers-test.false) ∙ c.numbers.invariant.rows
