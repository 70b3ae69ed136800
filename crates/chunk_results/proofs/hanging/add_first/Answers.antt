use Rattle.std.proofs.Common.{◌∙◌, ◌+◌, ap, filter, flat_map, drop}
use Rattle.defs_soar.specs.History.{firing_seen}
use Rattle.defs_soar.specs.Results.{named_by, with_each_symbol}
use Rattle.chunk_results.specs.Told.{hangs_as_told, is_told_result}
use Rattle.chunk_results.proofs.HeldSteps.{wish_step}
use Rattle.chunk_results.proofs.hanging.add_first.Goals as goal

pub wishes-preserved : goal.wishes-preserved
wishes-preserved g c =
    let told = g.L.Leveled.told c.args.before.now.levels.now in
    let hangs = hangs_as_told told c.args.before.now.goals.now (firing_seen c.args.before.now.firing.now) in
    let r = is_told_result told c.args.before.now.firing.now.depth in
    let wishes = c.args.wishes.now in
    let i = c.wishes.wish-index in
    record {
      same = c.in_ok-add_of_wish.ensures.same;
      order =
          ap (λ o. with_each_symbol o (filter hangs (flat_map named_by (filter r (drop (i + 1) wishes))))) c.in_ok-add_of_wish.ensures.order
          ∙ wish_step hangs r wishes i _ c.wishes-test.true c.wishes.held.order
          ∙ c.wishes.invariant.order;
    }
