use Rattle.std.proofs.Common.{◌∙◌, ◌||◌, ap, map}
use Rattle.defs_soar.specs.Pending.{instance_eq}
use Rattle.outstanding.specs.Keys.{has_key}
use Rattle.outstanding.proofs.KeyLemmas.{added, pair_same, put_key}
use Rattle.outstanding.proofs.instances.InstanceSet.add.Goals as goal

pub returns : goal.returns
returns c = λ i.
    let j = c.args.instance.now in
    let old = c.self.inside.tree.keys in
    ap (λ keys. has_key (map (λ key. (key.0, key.1.items)) keys) i) c.in_ok-insert.ensures.keys
    ∙ added (λ tags. tags.items) _ (λ a b. pair_same a.0 b.0 a.1.items b.1.items) old c.in_ok-key.key i
    ∙ put_key i j (c.in_ok-key.key.0, c.in_ok-key.key.1.items) (map (λ key. (key.0, key.1.items)) old) c.in_ok-key.ensures
    ∙ ap (λ l. instance_eq i j || has_key l i) c.self.view_is
