use Rattle.std.proofs.Common.{sym, subst}
use Rattle.slab.specs.Slab.{get}
use Rattle.node_table.specs.Nodes.{key_at}
use Rattle.node_table.specs.Content.{content}
use Rattle.node_table.specs.Serving.{found}
use Rattle.defs_match.specs.Rows.{rows}
use Rattle.rete_beta.specs.Told.{IsRowOf}
use Rattle.rete_beta.specs.Ways.{conditions_of}
use Rattle.rete_beta.proofs.ElementLemmas.{rising_differ}
use Rattle.rete_beta.proofs.ToldLemmas.{row_is}
use Rattle.rete_beta.proofs.ViewLemmas.{if_ok}
use Rattle.rete_beta.proofs.WayLemmas.{way_rows, holds_same}
use Rattle.rete_beta.proofs.reading.row_at.Goals as goal

pub returns : goal.returns
returns c =
    let net = c.args.net.now in
    let nodes = get net.nodes in
    let node = c.in-Some.node.now in
    let w = net.alpha.elements in
    if_ok (λ i is way on. subst (IsRowOf (rows (conditions_of way) w) c.args.tags.now) (sym is)
    (row_is (found node.memory) (rows (conditions_of way) w) c.args.tags.now
    (holds_same (found node.memory) (content (key_at nodes) node.made c.args.n w) (rows (conditions_of way) w) (c.requires.network.holds c.args.n node (sym c.in-Some.ensures))
    (way_rows c.negation_keeps.ensures nodes net.made c.requires.network.whole.table w (rising_differ w c.requires.network.rising) way c.args.n node (sym c.in-Some.ensures) on))))
    c.instance_at.result c.instance_at.ensures
