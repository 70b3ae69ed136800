use Rattle.std.proofs.Common.{◌≡◌, ◌∙◌, sym, subst, not}
use Rattle.std.specs.Result.{IfOk}
use Rattle.defs_soar.specs.Sorted.{in_order}
use Rattle.defs_soar.specs.Values.{has_triple_among}
use Rattle.soar_settle.specs.Known.{AreTriplesKnown}
use Rattle.soar_settle.proofs.TripleOrderLemmas.{known_in_order}
use Rattle.output_link.proofs.KnownLemmas.{known_answer, known_filter, without_same}
use Rattle.output_link.proofs.changes.those_without.Goals as goal

pub in_order-requires : goal.in_order-requires
in_order-requires c =
    subst (AreTriplesKnown c.args.table.now) (sym (c.as_slice.ensures ∙ c.in_ok-left.ensures))
    (known_filter c.args.table.now (λ t. not (has_triple_among c.in_ok-others.others t)) c.args.triples.now c.requires)

pub returns-clause-out : goal.returns-clause-out
returns-clause-out c =
    let left = c.as_slice.ensures ∙ c.in_ok-left.ensures ∙ without_same c.in_ok-others.others c.args.others.now c.args.triples.now c.in_ok-others.ensures in
    subst (λ l. IfOk c.in_order.result (λ out. out ≡ in_order c.args.table.now l)) left c.in_order.ensures

pub returns-clause-known : goal.returns-clause-known
returns-clause-known c =
    let words = c.args.table.now in
    known_answer words _ (in_order words c.as_slice.result.now) c.in_order.ensures
    (known_in_order words c.as_slice.result.now
    (subst (AreTriplesKnown words) (sym (c.as_slice.ensures ∙ c.in_ok-left.ensures))
    (known_filter words (λ t. not (has_triple_among c.in_ok-others.others t)) c.args.triples.now c.requires)))
