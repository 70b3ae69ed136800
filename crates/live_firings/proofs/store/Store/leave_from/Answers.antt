use Rattle.std.proofs.Common.{◌∙◌, sym, ap}
use Rattle.std.specs.Map.{values_of}
use Rattle.defs_soar.specs.Preferences.{without_firings}
use Rattle.live_firings.specs.Store.{deep_numbers, row_at}
use Rattle.live_firings.proofs.DropLemmas.{above_is, deep_fewer, deep_gone, deep_held, deep_left, deep_one, held_row, is_deep, none_deep_left}
use Rattle.live_firings.proofs.store.Store.leave_from.Goals as goal

pub rows-smaller : goal.rows-smaller
rows-smaller c =
    deep_fewer _ _ c.args.depth c.in-Some.place (deep_held _ _ _ _ c.args.depth c.in-Some.place c.rows.invariant.sound c.in-Some.ensures.some) c.take_with_rows.ensures.rows

pub rows-preserved : goal.rows-preserved
rows-preserved c =
    let depth = c.args.depth in
    let rows = c.rows.self.rows.entries in
    let new_rows = c.take_with_rows.new.self.rows.entries in
    let held = deep_held _ _ _ _ depth c.in-Some.place c.rows.invariant.sound c.in-Some.ensures.some in
    let found = held_row (is_deep depth) (row_at rows c.in-Some.place) held in
    let prefs = c.take_with_rows.ensures.prefs found.0 found.1 in
    record {
      sound = c.take_with_rows.ensures.sound;
      room = c.take_with_rows.ensures.room;
      told = c.take_with_rows.ensures.told ∙ c.rows.invariant.told;
      same = deep_one rows new_rows depth c.in-Some.place held c.take_with_rows.ensures.rows ∙ c.rows.invariant.same;
      limit = ap (λ p. p.limit) prefs ∙ c.rows.invariant.limit;
      settled = ap (λ p. p.settled) prefs ∙ c.rows.invariant.settled;
      left = ap (λ p. without_firings p.rows (deep_numbers depth (values_of new_rows))) prefs
          ∙ deep_left depth c.rows.prefs.rows rows new_rows c.in-Some.place found.0 found.1 found.2 c.take_with_rows.ensures.rows ∙ c.rows.invariant.left;
    }

pub returns-clause-rows : goal.returns-clause-rows
returns-clause-rows c =
    sym (deep_gone _ _ _ _ c.args.depth c.rows.invariant.sound c.in_default.ensures.none) ∙ c.rows.invariant.same ∙ above_is c.args.depth (values_of c.args.self.now.rows.entries)

pub returns-clause-prefs : goal.returns-clause-prefs
returns-clause-prefs c =
    let all = deep_gone _ _ _ _ c.args.depth c.rows.invariant.sound c.in_default.ensures.none in
    let rows = sym (none_deep_left c.args.depth c.rows.prefs.rows c.rows.self.rows.entries all) ∙ c.rows.invariant.left in
    λ k. record { rows = rows k; limit = c.rows.invariant.limit k; settled = c.rows.invariant.settled k }
