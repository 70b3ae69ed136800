use Rattle.std.proofs.Common.{◌≡◌, ◌∙◌, ap, sym, subst, List, flat_map}
use Rattle.std.specs.Result.{OnOk}
use Rattle.defs_soar.specs.declared.firing.Used.{Used}
use Rattle.defs_soar.specs.Explanation.{item_of}
use Rattle.defs_soar.specs.History.{firing_seen}
use Rattle.chunk_back.specs.Parts.{with_namings}
use Rattle.chunk_back.proofs.PartLemmas.{uses_of_none, uses_of_one}
use Rattle.chunk_back.proofs.named.add_items_of_number.Goals as goal

pub returns-in-Some : goal.returns-in-Some
returns-in-Some g c =
    let kept = g.K.Keeps.kept c.args.kept.now in
    let uses = uses_of_one kept c.requires c.args.number (firing_seen c.in-Some.firing.now) c.in-Some.ensures in
    subst (λ (used : List Used). OnOk c.add_used.result (c.add_used.new.namings ≡ with_namings (flat_map item_of used) c.args.items.now)) (c.as_slice.ensures ∙ sym uses) c.add_used.ensures

pub returns-in-None : goal.returns-in-None
returns-in-None g c =
    let kept = g.K.Keeps.kept c.args.kept.now in
    sym (ap (λ (used : List Used). with_namings (flat_map item_of used) c.args.items.now) (uses_of_none kept c.requires c.args.number c.in-None.ensures))
