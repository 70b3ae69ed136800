use Rattle.node_agenda.specs.Links.{links_by}
use Rattle.node_agenda.proofs.LinkLemmas.{less_heard}
use Rattle.node_agenda.proofs.linking.unlink_heard.Goals as goal

pub returns-then-heard : goal.returns-then-heard
returns-then-heard c k = less_heard c.args.heard (links_by c.args.key.now c.args.turn) c.args.below.now c.unlink_key.new.below k c.if-heard.true (c.unlink_key.ensures k)
