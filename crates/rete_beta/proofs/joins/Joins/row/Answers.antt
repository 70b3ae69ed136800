use Rattle.std.proofs.Common.{◌∙◌, sym, ap, subst, ℕ, List, Option}
use Rattle.soar_wm.specs.declared.element.Element.{Element}
use Rattle.defs_match.specs.Rows.{rows}
use Rattle.node_table.specs.declared.node.NodeKey.{NodeKey}
use Rattle.rete_beta.specs.Joins.{JoinsOf}
use Rattle.rete_beta.specs.Told.{IsRowOf}
use Rattle.rete_beta.specs.Ways.{IsWay, conditions_of}
use Rattle.rete_beta.proofs.ViewLemmas.{live_in, keys_in, if_ok}
use Rattle.rete_beta.proofs.joins.Joins.row.Goals as goal

pub row_at-requires-clause-live : goal.row_at-requires-clause-live
row_at-requires-clause-live c = live_in c.args.self.now c.self.inside.network.nodes.slots c.args.n (sym (ap (λ (v : JoinsOf). v.nodes) c.self.view_is)) (c.requires.live (sym (ap (λ (v : JoinsOf). v.failed) c.self.view_is) ∙ c.if-self.false))

pub returns-clause-row : goal.returns-clause-row
returns-clause-row c =
    let nodes = sym (ap (λ (v : JoinsOf). v.nodes) c.self.view_is) in
    if_ok (λ v told way is.
    subst (λ (w : List Element). IsRowOf (rows (conditions_of way) w) c.args.tags.now v) (ap (λ (x : JoinsOf). x.elements) c.self.view_is)
    (told way (subst (λ (k : ℕ → Option NodeKey). IsWay k way c.args.n) (keys_in c.args.self.now c.self.inside.network.nodes.slots nodes) is)))
    c.row_at.result c.row_at.ensures
