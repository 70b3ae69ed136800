use Rattle.std.proofs.Common.{refl, sym, ap}
use Rattle.rete_beta.specs.Joins.{JoinsOf}
use Rattle.rete_beta.specs.Insides.{joins_view}
use Rattle.std.proofs.lemmas.Result.{on_ok_weaker}
use Rattle.rete_beta.proofs.ToldLemmas.{told_shown}
use Rattle.rete_beta.proofs.ViewLemmas.{if_ok, same_shown}
use Rattle.rete_beta.proofs.joins.Joins.add.Goals as goal

pub returns-clause-nodes : goal.returns-clause-nodes
returns-clause-nodes c =
    on_ok_weaker c.plus-added.result (λ same. same_shown c.args.self.now (joins_view (record c.self.inside { network = c.plus-added.new.net; failed = c.is_err-self-inside.result })) c.self.inside.network.nodes.slots c.plus-added.new.net.nodes.slots
    (sym (ap (λ (v : JoinsOf). v.nodes) c.self.view_is)) refl same) c.plus-added.ensures.nodes

pub returns-clause-told : goal.returns-clause-told
returns-clause-told c =
    if_ok (λ served told. told_shown c.args.self.now (joins_view (record c.self.inside { network = c.plus-added.new.net; failed = c.is_err-self-inside.result })) c.self.inside.network.nodes.slots c.plus-added.new.net.nodes.slots
    c.self.inside.network.alpha.elements (sym (ap (λ (v : JoinsOf). v.nodes) c.self.view_is)) (ap (λ (v : JoinsOf). v.elements) c.self.view_is) refl served told)
    c.plus-added.result c.plus-added.ensures.told
