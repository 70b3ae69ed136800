use Rattle.std.proofs.Common.{◌∙◌}
use Rattle.std.proofs.lemmas.Result.{IfOk-weaker}
use Rattle.live_firings.proofs.FoundLemmas.{keys_found}
use Rattle.live_firings.proofs.reading.of_keys.Goals as goal

pub returns : goal.returns
returns c =
    let store = c.args.store.now in
    IfOk-weaker c.at_places.result _ _
    (λ found is. is ∙ keys_found store.rows.entries store.index store.next store.mark c.args.keys.now c.in_ok-places.places c.requires c.in_ok-places.ensures c.places_are_ordered.ensures)
    c.at_places.ensures
