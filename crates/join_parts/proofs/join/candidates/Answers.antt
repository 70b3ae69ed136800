use Rattle.std.proofs.Common.{◌≡◌, ◌∙◌, sym, ap, ap₂, filter, Some}
use Rattle.std.proofs.lemmas.Result.{IfOk-weaker}
use Rattle.defs_match.specs.Rows.{extend}
use Rattle.node_memory.specs.Keys.{meets, value_beside}
use Rattle.join_parts.specs.Known.{known}
use Rattle.join_parts.proofs.KnownLemmas.{extend_by_index}
use Rattle.join_parts.proofs.join.candidates.Goals as goal

pub returns-in-Some : goal.returns-in-Some
returns-in-Some c =
    let is : known c.args.p.now.id.tests c.args.row.now.bindings ≡ Some c.in-Some.id = ap₂ known (sym c.as_slice.ensures) (sym c.bindings.ensures) ∙ sym c.in-Some.ensures in
    let attr : c.known-attr.result ≡ known c.args.p.now.attr.tests c.args.row.now.bindings = c.known-attr.ensures ∙ ap₂ known c.as_slice-in-Some.ensures c.bindings-in-Some.ensures in
    let value : c.known-value.result ≡ known c.args.p.now.value.tests c.args.row.now.bindings = c.known-value.ensures ∙ ap₂ known c.as_slice-in-Some-2.ensures c.bindings-in-Some-2.ensures in
    IfOk-weaker c.candidates.result _ _
    (λ found same. ap (λ w. extend c.args.p.now w c.args.row.now) (same ∙ ap₂ (λ k v. filter (meets c.in-Some.id k (value_beside k v)) c.args.index.now) attr value) ∙ extend_by_index c.args.p.now c.args.row.now c.in-Some.id c.args.index.now is)
    c.candidates.ensures
