use Rattle.std.proofs.Common.{subst, IfOk}
use Rattle.slab.specs.Slab.{get}
use Rattle.soar_rule.specs.declared.cond.Pattern.{Pattern}
use Rattle.node_table.specs.declared.node.Step.TheVariants.{Join}
use Rattle.rete_beta.specs.Joins.{Asks}
use Rattle.rete_beta.specs.Networks.{asked_in, key_made}
use Rattle.rete_beta.proofs.asking.ask_join.Goals as goal

pub returns-clause-asks : goal.returns-clause-asks
returns-clause-asks c =
    subst (λ (p : Pattern). IfOk c.ask.result (λ n. Asks (asked_in (get c.args.net.now.nodes)) (asked_in (get c.ask.new.net.nodes)) (key_made c.args.parent (Join p)) n)) c.in_ok-copy.ensures c.ask.ensures.asks
