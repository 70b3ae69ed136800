use Rattle.rete_beta.specs.Joins.{node_at}
use Rattle.rete_beta.proofs.ViewLemmas.{if_ok}
use Rattle.rete_net.proofs.AskLemmas.{asks_negated}
use Rattle.rete_net.proofs.asking.ask_negated.Goals as goal

pub returns-clause-asks : goal.returns-clause-asks
returns-clause-asks c =
    if_ok
    (λ n asks.
    asks_negated (node_at c.args.joins.now) (node_at c.ask_join.new.joins) (node_at c.ask_negation.new.joins) c.args.nodes.now c.ask_join.new.nodes c.ask_negation.new.nodes
    c.args.parent c.in_ok-inner.inner n c.args.pattern.now c.in_ok-inner.ensures.asks asks)
    c.ask_negation.result c.ask_negation.ensures.asks
