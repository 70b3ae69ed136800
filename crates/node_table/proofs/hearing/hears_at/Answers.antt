use Rattle.std.proofs.Common.{◌≡◌, ◌∙◌, sym, ap, subst, true, []}
use Rattle.std.proofs.lemmas.Option.{same_Some}
use Rattle.slab.specs.Slab.{get}
use Rattle.node_memory.specs.Held.{Holds}
use Rattle.node_table.specs.declared.node.NodeKey.{NodeKey}
use Rattle.node_table.specs.declared.node.Node.{Node}
use Rattle.node_table.specs.Serving.{found}
use Rattle.node_table.specs.Hearing.{MayHear, hears_some}
use Rattle.node_table.proofs.HearLemmas.{may_hear, not_both}
use Rattle.node_table.proofs.hearing.hears_at.Goals as goal

pub returns : goal.returns
returns c node key here keyed some =
    let nodes = get c.args.nodes.now in
    let own = same_Some c.in-Some.node.now node (c.in-Some.ensures ∙ here) in
    let same = same_Some c.in-Some-key.key key (sym c.in-Some-key.is ∙ ap (λ (m : Node). m.key) own ∙ keyed) in
    subst (λ (k : NodeKey). MayHear nodes k c.args.alpha.now.elements c.hears.result.rows c.hears.result.elements) same
    (may_hear nodes c.in-Some-key.key c.args.alpha.now.elements c.hears.result
    (λ none u up. subst (λ (m : Node). Holds (found m.memory) []) (same_Some c.in-Some-get.parent.now u (c.in-Some-get.ensures ∙ up))
    (c.has_rows-rows.ensures (not_both c.has_rows-rows.result c.hears.result.elements c.hears.ensures.elements none)))
    (λ none. c.has_members-members.ensures (not_both c.has_members-members.result c.hears.result.rows c.hears.ensures.rows none))
    (c.hears.ensures.either (subst (λ (m : Node). hears_some m.hears ≡ true) (sym own) some)))
