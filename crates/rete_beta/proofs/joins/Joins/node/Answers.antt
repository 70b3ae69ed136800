use Rattle.std.proofs.Common.{◌∙◌, refl, sym, ap}
use Rattle.rete_beta.specs.Joins.{JoinsOf}
use Rattle.rete_beta.specs.Insides.{joins_view}
use Rattle.rete_beta.specs.Networks.{key_made}
use Rattle.node_table.specs.declared.node.Step.TheVariants.{Join}
use Rattle.rete_beta.proofs.ViewLemmas.{live_in, asks_shown, if_ok}
use Rattle.rete_beta.proofs.joins.Joins.node.Goals as goal

pub ask_join-asked-requires-clause-parent : goal.ask_join-asked-requires-clause-parent
ask_join-asked-requires-clause-parent c = live_in c.args.self.now c.self.inside.network.nodes.slots c.args.parent (sym (ap (λ (v : JoinsOf). v.nodes) c.self.view_is)) (c.requires.live (sym (ap (λ (v : JoinsOf). v.failed) c.self.view_is) ∙ c.if-self.false))

pub returns-clause-asks : goal.returns-clause-asks
returns-clause-asks c =
    if_ok (λ n asks. asks_shown c.args.self.now (joins_view (record c.self.inside { network = c.ask_join-asked.new.net; failed = c.is_err-self-inside.result })) c.self.inside.network.nodes.slots c.ask_join-asked.new.net.nodes.slots
    (sym (ap (λ (v : JoinsOf). v.nodes) c.self.view_is)) refl (key_made c.args.parent (Join c.args.pattern.now)) n asks) c.ask_join-asked.result c.ask_join-asked.ensures.asks
