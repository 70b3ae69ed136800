use Rattle.std.proofs.Common.{◌∙◌, ◌+◌, sym, ap, drop, map}
use Rattle.std.proofs.lemmas.List.{at_drop_all}
use Rattle.std.specs.BTreeSet.{keys}
use Rattle.dependency_tables.specs.Places.{each_from}
use Rattle.dependency_tables.proofs.PlaceLemmas.{none_more, one_table}
use Rattle.dependency_tables.proofs.adding.add_each.Goals as goal

pub tags-preserved : goal.tags-preserved
tags-preserved c =
    let place = c.tags.place in
    ap (λ l. each_from (place + 1) l (drop (place + 1) c.args.tags.now)) c.in_ok-add_at.ensures
    ∙ one_table c.args.tags.now place c.index-tags-place.result c.as_slice.result.now (map keys c.tags.tables.items) c.tags-test.true c.index-tags-place.is c.as_slice.ensures
    ∙ c.tags.invariant

pub returns : goal.returns
returns c =
    let place = c.tags.place in
    sym (none_more place (map keys c.tags.tables.items))
    ∙ sym (at_drop_all (λ l. each_from place (map keys c.tags.tables.items) l) c.args.tags.now place c.tags-test.false)
    ∙ c.tags.invariant
