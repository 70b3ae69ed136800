use Rattle.std.proofs.Common.{◌≡◌, sym, ◌+◌, arith}
use Rattle.std.specs.BTreeMap as numbers_of
use Rattle.slab.specs.Slab.{get}
use Rattle.node_table.specs.Nodes.{key_cmp, key_at}
use Rattle.node_table.proofs.NumberLemmas.{numbered_same}
use Rattle.node_table.proofs.AskedLemmas.{alike_asked}
use Rattle.node_agenda.proofs.BeginLemmas.{stands_first, loop_first}
use Rattle.rete_beta.proofs.ElementLemmas.{rising_differ}
use Rattle.node_agenda.proofs.SpreadLemmas.{linked}
use Rattle.node_table.proofs.HearLemmas.{all_ask}
use Rattle.rete_beta.proofs.SettleLemmas.{keys_settled, askers_settled, asked_settled, stamps_settled, root_settled, first_turns, first_reached, unserved}
use Rattle.rete_beta.proofs.changing.react.Goals as goal

pub settle-requires-clause-loops : goal.settle-requires-clause-loops
settle-requires-clause-loops c =
    let net = c.args.net.now in
    let n = c.requires.behind.network in
    loop_first (get net.nodes) c.requires.behind.before net.alpha.elements net.stamp c.args.come c.args.goes c.requires.behind.change (unserved (get net.nodes) net.stamp n.stamps) c.in_ok-agenda.agenda.keys net.below net.made n.whole.table
    (first_turns (get net.nodes) net.takers net.alpha c.args.e.now c.in_ok-agenda.agenda.keys n.takers c.in_ok-agenda.ensures)
    (first_reached net.nodes.slots net.takers net.alpha c.args.e.now c.args.come c.args.goes c.in_ok-agenda.agenda.keys n.whole.asked n.takers c.in_ok-agenda.ensures c.requires.one)
    n.hear (linked (get net.nodes) net.below n.links)

pub settle-requires-clause-asked : goal.settle-requires-clause-asked
settle-requires-clause-asked c = (let net = c.args.net.now in all_ask net.nodes.slots net.alpha c.requires.behind.network.whole.asked)

pub settle-requires-clause-linked : goal.settle-requires-clause-linked
settle-requires-clause-linked c = (let n = c.requires.behind.network in record { rows = n.links; elements = n.takers })

pub returns-clause-network : goal.returns-clause-network
returns-clause-network c =
    let net = c.args.net.now in
    let n = c.requires.behind.network in
    let old = get net.nodes in
    let new = get c.settle.new.nodes in
    let s = c.in_ok-served.ensures.settles in
    let next : c.in-Some.next ≡ c.args.net.now.stamp + 1 = omega arith in
    record {
      works = n.works;
      whole = record {
        numbered = numbered_same (numbers_of.get key_cmp net.numbers) (key_at old) (key_at new) n.whole.numbered (keys_settled old new net.stamp s);
        table = c.in_ok-served.ensures.table;
        asked = alike_asked net.nodes.slots c.settle.new.nodes.slots net.alpha n.whole.asked (askers_settled old new net.stamp s);
      };
      links = c.in_ok-served.ensures.linked.rows;
      takers = c.in_ok-served.ensures.linked.elements;
      stamps = stamps_settled old new net.stamp c.in-Some.next s (sym next) n.stamps;
      elements = n.elements;
      rising = n.rising;
      hear = c.in_ok-served.ensures.hear;
      holds = c.in_ok-served.ensures.hold c.requires.behind.before net.alpha.elements (stands_first old net.stamp c.requires.behind.before net.alpha.elements n.holds (unserved old net.stamp n.stamps)) c.requires.behind.change n.elements
          (rising_differ net.alpha.elements n.rising);
      root = root_settled old new net.stamp s n.root;
    }

pub returns-clause-nodes : goal.returns-clause-nodes
returns-clause-nodes c = asked_settled (get c.args.net.now.nodes) (get c.settle.new.nodes) c.args.net.now.stamp c.in_ok-served.ensures.settles

pub returns-clause-tell : goal.returns-clause-tell
returns-clause-tell c w hold change =
    let net = c.args.net.now in
    let n = c.requires.behind.network in
    c.in_ok-served.ensures.tell w net.alpha.elements (stands_first (get net.nodes) net.stamp w net.alpha.elements hold (unserved (get net.nodes) net.stamp n.stamps)) change n.elements
    (rising_differ net.alpha.elements n.rising)
