use Rattle.std.proofs.Common.{◌∙◌, cond, sym, ap}
use Rattle.std.proofs.lemmas.Result.{on_ok_weaker}
use Rattle.defs_soar.specs.Values.{has_triple_among, triple_eq}
use Rattle.kept_triples.proofs.LookLemmas.{went_so}
use Rattle.kept_triples.proofs.looking.renew.Goals as goal

pub returns-else-is_held-clause-members : goal.returns-else-is_held-clause-members
returns-else-is_held-clause-members c =
    let old = c.args.held.now in
    on_ok_weaker c.go.result
    (λ went t. went t ∙ went_so (triple_eq t c.args.triple) (has_triple_among old t)
    ∙ ap (λ b. cond (triple_eq t c.args.triple) b (has_triple_among old t)) (sym c.if-is_held.false))
    c.go.ensures.members
