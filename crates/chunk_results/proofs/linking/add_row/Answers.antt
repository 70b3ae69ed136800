use Rattle.std.proofs.Common.{◌∙◌, sym}
use Rattle.chunk_results.proofs.LinkLemmas.{row_linked}
use Rattle.chunk_results.proofs.linking.add_row.Goals as goal

pub returns-in_ok-add_link : goal.returns-in_ok-add_link
returns-in_ok-add_link c = λ x y. row_linked c.args.row.now x y _ _ _ (sym c.is.ensures ∙ c.if-is.true) (c.in_ok-add_referent.ensures x y) (c.in_ok-add_link.ensures x y)
