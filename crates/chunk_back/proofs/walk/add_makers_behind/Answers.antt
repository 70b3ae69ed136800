use Rattle.std.proofs.Common.{◌≡◌, ap, sym, subst, List, ℕ, flat_map}
use Rattle.std.specs.Result.{OnOk}
use Rattle.defs_soar.specs.Explanation.{maker_named, with_numbers}
use Rattle.defs_soar.specs.declared.firing.Used.{Used}
use Rattle.defs_soar.specs.History.{firing_seen}
use Rattle.chunk_back.proofs.WalkLemmas.{makers_of_none, makers_of_one}
use Rattle.chunk_back.proofs.walk.add_makers_behind.Goals as goal

pub returns-in-Some : goal.returns-in-Some
returns-in-Some g c =
    let kept = g.K.Keeps.kept c.args.kept.now in
    let makers = makers_of_one kept c.requires c.args.number (firing_seen c.in-Some.firing.now) c.in-Some.ensures in
    subst (λ (ns : List ℕ). OnOk c.add_makers.result (c.add_makers.new.waiting ≡ with_numbers ns c.args.waiting.now)) (sym makers)
    (subst (λ (used : List Used). OnOk c.add_makers.result (c.add_makers.new.waiting ≡ with_numbers (flat_map maker_named used) c.args.waiting.now)) c.as_slice.ensures c.add_makers.ensures)

pub returns-in-None : goal.returns-in-None
returns-in-None g c =
    let kept = g.K.Keeps.kept c.args.kept.now in
    sym (ap (λ (ns : List ℕ). with_numbers ns c.args.waiting.now) (makers_of_none kept c.requires c.args.number c.in-None.ensures))
