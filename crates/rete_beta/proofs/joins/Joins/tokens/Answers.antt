use Rattle.std.proofs.Common.{◌≡◌, ◌∙◌, sym, ap, subst, ℕ, List, map, Option}
use Rattle.soar_wm.specs.declared.element.Element.{Element}
use Rattle.defs_match.specs.Conflict.{instance_of}
use Rattle.defs_match.specs.Rows.{rows}
use Rattle.node_table.specs.declared.node.NodeKey.{NodeKey}
use Rattle.rete_beta.specs.Joins.{JoinsOf}
use Rattle.rete_beta.specs.Ways.{IsWay, conditions_of}
use Rattle.rete_beta.proofs.ViewLemmas.{live_in, keys_in, if_ok}
use Rattle.rete_beta.proofs.joins.Joins.tokens.Goals as goal

pub tokens_at-requires-clause-live : goal.tokens_at-requires-clause-live
tokens_at-requires-clause-live c = live_in c.args.self.now c.self.inside.network.nodes.slots c.args.n (sym (ap (λ (v : JoinsOf). v.nodes) c.self.view_is)) (c.requires.live (sym (ap (λ (v : JoinsOf). v.failed) c.self.view_is) ∙ c.if-self.false))

pub returns-clause-tokens : goal.returns-clause-tokens
returns-clause-tokens c =
    let nodes = sym (ap (λ (v : JoinsOf). v.nodes) c.self.view_is) in
    if_ok (λ v told way is.
    subst (λ (w : List Element). v ≡ map (instance_of 0) (rows (conditions_of way) w)) (ap (λ (x : JoinsOf). x.elements) c.self.view_is)
    (told way (subst (λ (k : ℕ → Option NodeKey). IsWay k way c.args.n) (keys_in c.args.self.now c.self.inside.network.nodes.slots nodes) is)))
    c.tokens_at.result c.tokens_at.ensures
