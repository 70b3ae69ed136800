use Rattle.std.proofs.Common.{◌∙◌, inl, refl, sym, subst, ap, IsSome, Option}
use Rattle.slab.specs.Slab.{get}
use Rattle.defs_match.specs.Laws.{IsIn}
use Rattle.node_table.specs.declared.node.Step.{Step}
use Rattle.node_table.specs.declared.node.Step.TheVariants.{Join, Negation}
use Rattle.node_table.specs.declared.node.NodeKey.{NodeKey}
use Rattle.node_table.specs.declared.node.Node.{Node}
use Rattle.node_table.specs.Nodes.{inner_of}
use Rattle.node_table.specs.Serving.{found, AreIndexed, CanJoin, Tells}
use Rattle.node_table.proofs.NodeLemmas.{weaker_ok}
use Rattle.node_table.proofs.ServingLemmas.{own_key, own_parent, tells_join, tells_negation, key_is, tells_here}
use Rattle.node_table.proofs.serving.change_at.Goals as goal

pub change_of_join-requires-clause-indexed : goal.change_of_join-requires-clause-indexed
change_of_join-requires-clause-indexed c =
    subst (λ (m : Node). AreIndexed m.memory)
    (own_parent (get c.args.nodes.now) c.args.n c.requires c.in-Some.node.now c.in-Some-key.key c.in-Some-get.parent.now (sym c.in-Some.ensures) c.in-Some-key.is (sym c.in-Some-get.ensures)) c.requires.indexed

pub change_of_join-requires-clause-joined : goal.change_of_join-requires-clause-joined
change_of_join-requires-clause-joined c =
    let key = own_key (get c.args.nodes.now) c.args.n c.requires c.in-Some.node.now c.in-Some-key.key (sym c.in-Some.ensures) c.in-Some-key.is in
    let parent = own_parent (get c.args.nodes.now) c.args.n c.requires c.in-Some.node.now c.in-Some-key.key c.in-Some-get.parent.now (sym c.in-Some.ensures) c.in-Some-key.is (sym c.in-Some-get.ensures) in
    subst (λ (s : Step). CanJoin s c.in-Some-get.parent.now.memory) (ap (λ (k : NodeKey). k.step) key ∙ c.in-Join.is) (subst (λ (m : Node). CanJoin c.requires.key.step m.memory) parent c.requires.joined)

pub change_behind-requires : goal.change_behind-requires
change_behind-requires c =
    let key = own_key (get c.args.nodes.now) c.args.n c.requires c.in-Some.node.now c.in-Some-key.key (sym c.in-Some.ensures) c.in-Some-key.is in
    let at = subst (λ (s : Step). IsIn c.in-Negation.m (inner_of s)) (sym (ap (λ (k : NodeKey). k.step) key ∙ c.in-Negation.is)) (inl refl) in
    let inside = c.requires.inner c.in-Negation.m at in
    subst (λ (o : Option Node). IsSome o) (sym inside.1) refl

pub returns-in-Join : goal.returns-in-Join
returns-in-Join c =
    let nodes = get c.args.nodes.now in
    let node = c.in-Some.node.now in
    let key = c.in-Some-key.key in
    weaker_ok (λ r told. tells_here nodes c.args.n c.args.stamp c.args.index.now c.args.come c.args.goes r.0.items r.1.items node key (sym c.in-Some.ensures) c.in-Some-key.is
    (subst (λ (k : NodeKey). Tells nodes k c.args.stamp (found node.memory) c.args.index.now c.args.come c.args.goes r.0.items r.1.items) (key_is key (Join c.in-Join.p) c.in-Join.is)
    (tells_join nodes key.parent c.in-Some-get.parent.now (sym c.in-Some-get.ensures) c.args.stamp (found node.memory) c.args.index.now c.args.come c.args.goes r.0.items r.1.items c.in-Join.p told)))
    c.change_of_join.result c.change_of_join.ensures

pub returns-in-Negation : goal.returns-in-Negation
returns-in-Negation c =
    let nodes = get c.args.nodes.now in
    let node = c.in-Some.node.now in
    let key = c.in-Some-key.key in
    let own = own_key nodes c.args.n c.requires node key (sym c.in-Some.ensures) c.in-Some-key.is in
    let at = subst (λ (s : Step). IsIn c.in-Negation.m (inner_of s)) (sym (ap (λ (k : NodeKey). k.step) own ∙ c.in-Negation.is)) (inl refl) in
    let inside = c.requires.inner c.in-Negation.m at in
    weaker_ok (λ r told. tells_here nodes c.args.n c.args.stamp c.args.index.now c.args.come c.args.goes r.0.items r.1.items node key (sym c.in-Some.ensures) c.in-Some-key.is
    (subst (λ (k : NodeKey). Tells nodes k c.args.stamp (found node.memory) c.args.index.now c.args.come c.args.goes r.0.items r.1.items) (key_is key (Negation c.in-Negation.m) c.in-Negation.is)
    (tells_negation nodes key.parent c.in-Some-get.parent.now (sym c.in-Some-get.ensures) c.args.stamp (found node.memory) c.args.index.now c.args.come c.args.goes r.0.items r.1.items c.in-Negation.m inside.0 inside.1
    (told inside.0 inside.1))))
    c.change_behind.result c.change_behind.ensures
