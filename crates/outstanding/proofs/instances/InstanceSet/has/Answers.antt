use Rattle.std.proofs.Common.{◌∙◌, ap}
use Rattle.outstanding.specs.Keys.{has_key}
use Rattle.outstanding.proofs.KeyLemmas.{found, pair_same}
use Rattle.outstanding.proofs.instances.InstanceSet.has.Goals as goal

pub returns : goal.returns
returns c =
    c.contains.ensures
    ∙ found (λ tags. tags.items) _ (λ a b. pair_same a.0 b.0 a.1.items b.1.items) c.self.inside.tree.keys c.in_ok-key.key c.args.instance.now c.in_ok-key.ensures
    ∙ ap (λ l. has_key l c.args.instance.now) c.self.view_is
