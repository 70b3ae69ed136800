use Rattle.std.proofs.Common.{◌≡◌, sym, ◌∙◌, ap}
use Rattle.defs_soar.specs.Values.{triple_eq}
use Rattle.settling_laws.proofs.SlotLemmas.{triple_itself}
use Rattle.kept_triples.proofs.KeyLemmas.{triple_is}
use Rattle.settle_changes.proofs.same.is_same_triple.Goals as goal

pub returns : goal.returns
returns c =
    let a = c.args.a.now in
    let b = c.args.b.now in
    let is : c.is_triple.result ≡ triple_eq a b = c.is_triple.ensures in
    (λ h. triple_is a b (sym is ∙ h), λ e. is ∙ ap (triple_eq a) (sym e) ∙ triple_itself a)
