use Rattle.std.proofs.Common.{sym}
use Rattle.slab.specs.Slab.{get}
use Rattle.node_table.specs.Nodes.{key_at}
use Rattle.node_table.specs.Content.{content}
use Rattle.node_table.specs.Serving.{found}
use Rattle.defs_match.specs.Rows.{rows}
use Rattle.rete_beta.specs.Ways.{conditions_of}
use Rattle.rete_beta.proofs.ElementLemmas.{rising_differ}
use Rattle.rete_beta.proofs.ViewLemmas.{if_ok}
use Rattle.rete_beta.proofs.WayLemmas.{way_rows, holds_same}
use Rattle.rete_beta.proofs.reading.tokens_at.Goals as goal

pub returns : goal.returns
returns c =
    let net = c.args.net.now in
    let nodes = get net.nodes in
    let node = c.in-Some.node.now in
    let w = net.alpha.elements in
    if_ok (λ v told way is. told (conditions_of way) w c.requires.network.rising
    (holds_same (found node.memory) (content (key_at nodes) node.made c.args.n w) (rows (conditions_of way) w) (c.requires.network.holds c.args.n node (sym c.in-Some.ensures))
    (way_rows c.negation_keeps.ensures nodes net.made c.requires.network.whole.table w (rising_differ w c.requires.network.rising) way c.args.n node (sym c.in-Some.ensures) is)))
    c.tokens.result c.tokens.ensures
