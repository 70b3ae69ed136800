use Rattle.std.proofs.Common.{◌∙◌, ap}
use Rattle.live_firings.proofs.FoundLemmas.{has_place, put_place}
use Rattle.live_firings.proofs.index.add_place.Goals as goal

pub returns : goal.returns
returns c = λ p. ap (λ ns. has_place ns p) c.in_ok-insert.ensures.keys ∙ put_place p c.args.place c.args.places.now.keys
