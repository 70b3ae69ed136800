use Rattle.std.proofs.Common.{◌∙◌, ◌∷◌, ◌++◌, [], ◌≤◌, length, ap, subst, sym}
use Rattle.std.proofs.lemmas.List.Sums.{prefix_len-le-length}
use Rattle.step_report.specs.Reports.{removed_seen}
use Rattle.decision_parts.proofs.MergedLemmas.{merged_at}
use Rattle.decision_parts.proofs.merging.with_removed.Goals as goal

pub split_at-requires : goal.split_at-requires
split_at-requires c = subst (λ n. n ≤ length c.args.removed.now) (sym c.count_above.ensures) (prefix_len-le-length _ c.args.removed.now)

pub returns : goal.returns
returns c =
    let whole = c.in_ok-extend_from_slice.ensures.ok ∙ ap (λ xs. xs ++ c.split_at.result.1.now) (c.in_ok-push.ensures.ok ∙ ap (λ xs. xs ++ c.args.goal ∷ []) c.in_ok-all.ensures) in
    merged_at removed_seen c.args.goal c.args.removed.now c.count_above.result c.split_at.result.0.now c.split_at.result.1.now c.extend_from_slice.new.self
    c.count_above.ensures c.split_at.ensures.front c.split_at.ensures.back whole
