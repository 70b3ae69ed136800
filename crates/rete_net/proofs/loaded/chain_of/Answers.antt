use Rattle.std.proofs.Common.{◌∙◌, ap}
use Rattle.soar_rule.specs.Canonical.{canonical}
use Rattle.soar_rule.specs.Conditions.{conditions}
use Rattle.soar_rule.specs.Productions.{ProductionOf, production_seen}
use Rattle.rete_beta.specs.Joins.{node_at}
use Rattle.rete_net.proofs.AskLemmas.{asks_whole}
use Rattle.rete_net.proofs.loaded.chain_of.Goals as goal

pub returns-clause-served : goal.returns-clause-served
returns-clause-served c =
    (asks_whole (node_at c.args.joins.now) (node_at c.ask_all.new.joins) (conditions c.as_slice.result.now) (canonical (production_seen c.in_ok-rule.rule.production)).conditions
    c.new-nodes.result c.ask_all.new.nodes c.in_ok-last.last c.new-nodes.ensures
    (ap conditions c.as_slice.ensures ∙ ap (λ (p : ProductionOf). p.conditions) (rw c.deref.ensures at c.in_ok-form.ensures)) c.in_ok-last.ensures.asks).0

pub returns-clause-grows : goal.returns-clause-grows
returns-clause-grows c =
    (asks_whole (node_at c.args.joins.now) (node_at c.ask_all.new.joins) (conditions c.as_slice.result.now) (canonical (production_seen c.in_ok-rule.rule.production)).conditions
    c.new-nodes.result c.ask_all.new.nodes c.in_ok-last.last c.new-nodes.ensures
    (ap conditions c.as_slice.ensures ∙ ap (λ (p : ProductionOf). p.conditions) (rw c.deref.ensures at c.in_ok-form.ensures)) c.in_ok-last.ensures.asks).1
