use Rattle.std.proofs.Common.{sym, subst}
use Rattle.std.specs.BTreeMap as numbers_of
use Rattle.slab.specs.Slab.{get}
use Rattle.node_table.specs.declared.node.Node.{Node}
use Rattle.node_table.specs.Nodes.{key_cmp}
use Rattle.node_table.specs.Serving.{AreIndexed}
use Rattle.node_table.specs.Hearing.{IsBarren, AllHear}
use Rattle.node_table.proofs.HearLemmas.{asked_for}
use Rattle.node_table.proofs.MakeLemmas.{live_at, if_live, asks_elements, ready_numbered, ready_parent, made_whole, made_adds, made_holds, made_hears}
use Rattle.node_table.proofs.making.make.Goals as goal

pub index_at-requires : goal.index_at-requires
index_at-requires c = if_live (λ (m : Node). AreIndexed m.memory) (get c.args.nodes.now c.args.key.parent) (λ m here. c.requires.whole.table.indexed c.args.key.parent m here)

pub new_node-requires : goal.new_node-requires
new_node-requires c =
    let p = live_at (get c.args.nodes.now c.args.key.parent) c.requires.parent in
    let r = c.in_ok-index_at.ensures.ready p.0 p.1 in
    ready_parent (numbers_of.get key_cmp c.args.numbers.now) c.args.nodes.now.slots c.index_at.new.nodes.slots c.args.alpha.now c.args.made c.args.key c.requires.whole c.requires.inner p.0 r.0 p.1 r.1 r.2 c.in_ok-index_at.ensures.others

pub ask_first-requires-clause-numbered : goal.ask_first-requires-clause-numbered
ask_first-requires-clause-numbered c =
    let p = live_at (get c.args.nodes.now c.args.key.parent) c.requires.parent in
    let r = c.in_ok-index_at.ensures.ready p.0 p.1 in
    ready_numbered (numbers_of.get key_cmp c.args.numbers.now) c.args.nodes.now.slots c.index_at.new.nodes.slots c.args.alpha.now c.args.made c.args.key c.requires.whole c.requires.inner p.0 r.0 p.1 r.1 r.2 c.in_ok-index_at.ensures.others

pub returns-clause-elements : goal.returns-clause-elements
returns-clause-elements c = asks_elements c.args.key.step c.args.alpha.now c.ask_pattern.new.alpha c.in_ok-number.number c.in_ok-number.ensures.asks

pub returns-clause-whole : goal.returns-clause-whole
returns-clause-whole c =
    let p = live_at (get c.args.nodes.now c.args.key.parent) c.requires.parent in
    let r = c.in_ok-index_at.ensures.ready p.0 p.1 in
    made_whole (numbers_of.get key_cmp c.args.numbers.now) c.args.nodes.now.slots c.index_at.new.nodes.slots c.args.alpha.now c.args.made c.args.key c.requires.whole c.requires.inner p.0 r.0 p.1 r.1 r.2 c.in_ok-index_at.ensures.others
    (numbers_of.get key_cmp c.ask_first.new.numbers) c.ask_first.new.nodes.slots c.ask_pattern.new.alpha c.args.index.now c.in_ok-number.number c.in_ok-n.n c.in_ok-node.node c.in_ok-n.ensures.vacant c.in_ok-n.ensures.nodes c.in_ok-n.ensures.numbered c.in_ok-number.ensures.asks (c.in_ok-node.ensures.new r.0 r.1)

pub returns-clause-adds : goal.returns-clause-adds
returns-clause-adds c =
    let p = live_at (get c.args.nodes.now c.args.key.parent) c.requires.parent in
    let r = c.in_ok-index_at.ensures.ready p.0 p.1 in (
      c.in_ok-number.number,
      c.in_ok-number.ensures.asks,
      made_adds (numbers_of.get key_cmp c.args.numbers.now) c.args.nodes.now.slots c.index_at.new.nodes.slots c.args.alpha.now c.args.made c.args.key c.requires.whole c.requires.inner p.0 r.0 p.1 r.1 r.2 c.in_ok-index_at.ensures.others
          (numbers_of.get key_cmp c.ask_first.new.numbers) c.ask_first.new.nodes.slots c.ask_pattern.new.alpha c.args.index.now c.in_ok-number.number c.in_ok-n.n c.in_ok-node.node c.in_ok-n.ensures.vacant c.in_ok-n.ensures.nodes c.in_ok-n.ensures.numbered c.in_ok-number.ensures.asks (c.in_ok-node.ensures.new r.0 r.1),
    )

pub returns-clause-hold : goal.returns-clause-hold
returns-clause-hold c =
    let p = live_at (get c.args.nodes.now c.args.key.parent) c.requires.parent in
    let r = c.in_ok-index_at.ensures.ready p.0 p.1 in
    made_holds (numbers_of.get key_cmp c.args.numbers.now) c.args.nodes.now.slots c.index_at.new.nodes.slots c.args.alpha.now c.args.made c.args.key c.requires.whole c.requires.inner p.0 r.0 p.1 r.1 r.2 c.in_ok-index_at.ensures.others
    (numbers_of.get key_cmp c.ask_first.new.numbers) c.ask_first.new.nodes.slots c.ask_pattern.new.alpha c.args.index.now c.in_ok-number.number c.in_ok-n.n c.in_ok-node.node c.in_ok-n.ensures.vacant c.in_ok-n.ensures.nodes c.in_ok-n.ensures.numbered c.in_ok-number.ensures.asks (c.in_ok-node.ensures.new r.0 r.1)

pub ask_first-requires-clause-own : goal.ask_first-requires-clause-own
ask_first-requires-clause-own c =
    let p = live_at (get c.args.nodes.now c.args.key.parent) c.requires.parent in
    let r = c.in_ok-index_at.ensures.ready p.0 p.1 in
    (c.in_ok-node.ensures.new r.0 r.1).keyed

pub has_members-members-requires-clause-asked : goal.has_members-members-requires-clause-asked
has_members-members-requires-clause-asked c = asked_for c.args.key.step c.args.alpha.now c.ask_pattern.new.alpha c.in_ok-number.number c.in_ok-number.ensures.asks

pub returns-clause-hear : goal.returns-clause-hear
returns-clause-hear c all =
    let p = live_at (get c.args.nodes.now c.args.key.parent) c.requires.parent in
    let r = c.in_ok-index_at.ensures.ready p.0 p.1 in
    let same = asks_elements c.args.key.step c.args.alpha.now c.ask_pattern.new.alpha c.in_ok-number.number c.in_ok-number.ensures.asks in
    subst (AllHear (get c.ask_first.new.nodes)) (sym same)
    (made_hears (numbers_of.get key_cmp c.args.numbers.now) c.args.nodes.now.slots c.index_at.new.nodes.slots c.args.alpha.now c.args.made c.args.key c.requires.whole c.requires.inner p.0 r.0 p.1 r.1 r.2 c.in_ok-index_at.ensures.others
    (numbers_of.get key_cmp c.ask_first.new.numbers) c.ask_first.new.nodes.slots c.ask_pattern.new.alpha c.args.index.now c.in_ok-number.number c.in_ok-n.n c.in_ok-node.node c.in_ok-n.ensures.vacant c.in_ok-n.ensures.nodes c.in_ok-n.ensures.numbered c.in_ok-number.ensures.asks (c.in_ok-node.ensures.new r.0 r.1) c.args.alpha.now.elements all
    (c.in_ok-node.ensures.hears c.args.alpha.now.elements (λ none. subst (IsBarren c.args.key.step) same (c.has_members-members.ensures none))))
