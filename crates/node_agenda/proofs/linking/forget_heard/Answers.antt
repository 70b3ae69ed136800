use Rattle.node_table.specs.Asked.{asker_by}
use Rattle.node_agenda.specs.Links.{takers_by}
use Rattle.node_agenda.proofs.LinkLemmas.{less_heard}
use Rattle.node_agenda.proofs.linking.forget_heard.Goals as goal

pub returns-then-heard : goal.returns-then-heard
returns-then-heard c k = less_heard c.args.heard (takers_by (asker_by c.args.number c.args.key.now) c.args.turn) c.args.takers.now c.forget_key.new.takers k c.if-heard.true (c.forget_key.ensures k)
