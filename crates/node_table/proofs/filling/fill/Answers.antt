use Rattle.std.proofs.Common.{inl, refl, sym, subst, IsSome, Option}
use Rattle.slab.specs.Slab.{get}
use Rattle.defs_match.specs.Laws.{IsIn}
use Rattle.node_memory.specs.declared.memory.Memory.{Memory}
use Rattle.node_table.specs.declared.node.Step.{Step}
use Rattle.node_table.specs.declared.node.Node.{Node}
use Rattle.node_table.specs.Nodes.{inner_of}
use Rattle.node_table.specs.Serving.{AreIndexed, CanJoin}
use Rattle.node_table.proofs.FillLemmas.{fills_join, fills_negation}
use Rattle.node_table.proofs.NodeLemmas.{weaker_ok}
use Rattle.node_table.proofs.filling.fill.Goals as goal

pub fill_join-requires-clause-indexed : goal.fill_join-requires-clause-indexed
fill_join-requires-clause-indexed c = subst AreIndexed (c.requires.parent c.requires.ready.parent c.requires.ready.above) c.requires.ready.indexed

pub fill_join-requires-clause-joined : goal.fill_join-requires-clause-joined
fill_join-requires-clause-joined c =
    subst (λ (s : Step). CanJoin s c.args.parent.now) c.in-Join.is (subst (λ (m : Memory). CanJoin c.args.key.now.step m) (c.requires.parent c.requires.ready.parent c.requires.ready.above) c.requires.ready.joined)

pub fill_behind-requires : goal.fill_behind-requires
fill_behind-requires c =
    let inside = c.requires.ready.inner c.in-Negation.m (subst (λ (s : Step). IsIn c.in-Negation.m (inner_of s)) (sym c.in-Negation.is) (inl refl)) in
    subst (λ (o : Option Node). IsSome o) (sym inside.1) refl

pub returns-in-Join-clause-filled : goal.returns-in-Join-clause-filled
returns-in-Join-clause-filled c =
    weaker_ok (λ m told. fills_join (get c.args.nodes.now) c.args.key.now c.args.index.now c.args.parent.now c.requires.ready.parent c.requires.ready.above (c.requires.parent c.requires.ready.parent c.requires.ready.above) m c.in-Join.p c.in-Join.is told)
    c.fill_join.result c.fill_join.ensures.holds

pub returns-in-Negation-clause-filled : goal.returns-in-Negation-clause-filled
returns-in-Negation-clause-filled c =
    let inside = c.requires.ready.inner c.in-Negation.m (subst (λ (s : Step). IsIn c.in-Negation.m (inner_of s)) (sym c.in-Negation.is) (inl refl)) in
    weaker_ok (λ m told. fills_negation (get c.args.nodes.now) c.args.key.now c.args.index.now c.args.parent.now c.requires.ready.parent c.requires.ready.above (c.requires.parent c.requires.ready.parent c.requires.ready.above) m
    c.in-Negation.m inside.0 inside.1 c.in-Negation.is (told inside.0 inside.1)) c.fill_behind.result c.fill_behind.ensures.holds
