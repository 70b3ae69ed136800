use Rattle.std.proofs.Common.{◌≡◌, ◌∙◌, refl, sym, ap, false, arith}
use Rattle.rete_beta.specs.Joins.{JoinsOf}
use Rattle.rete_beta.specs.Insides.{joins_view}
use Rattle.rete_beta.proofs.ViewLemmas.{drops_shown, can_drop}
use Rattle.rete_beta.proofs.joins.Joins.drop_node.Goals as goal

pub drop_at-requires-clause-can : goal.drop_at-requires-clause-can
drop_at-requires-clause-can c =
    let works : c.self.inside.failed ≡ false = grind (arith, c.if-not-self.true) in
    can_drop c.args.self.now c.self.inside.network.nodes.slots c.args.n (sym (ap (λ (v : JoinsOf). v.nodes) c.self.view_is)) (c.requires.can (sym (ap (λ (v : JoinsOf). v.failed) c.self.view_is) ∙ works))

pub returns-then-not-self-clause-drops : goal.returns-then-not-self-clause-drops
returns-then-not-self-clause-drops c works =
    drops_shown c.args.self.now (joins_view (record c.self.inside { network = c.drop_at.new.net })) c.self.inside.network.nodes.slots c.drop_at.new.net.nodes.slots (sym (ap (λ (v : JoinsOf). v.nodes) c.self.view_is)) refl c.args.n c.drop_at.ensures.drops
