use Rattle.live_firings.proofs.PlaceLemmas.{ends_rise}
use Rattle.live_firings.proofs.index.add_places.Goals as goal

pub range-stand-items-requires : goal.range-stand-items-requires
range-stand-items-requires c = ends_rise c.args.key.now _ _ c.in_ok-low.low c.in_ok-high.high c.new.ensures.start c.new.ensures.end c.in_ok-low.ensures c.in_ok-high.ensures
