use Rattle.level_change.proofs.ChangeLemmas.{recounted}
use Rattle.level_change.proofs.EdgeLemmas.{counted_as}
use Rattle.level_change.proofs.LinkLemmas.{on_ok}
use Rattle.level_change.proofs.counting.recount.Goals as goal

pub returns-clause-out : goal.returns-clause-out
returns-clause-out c = on_ok c.take_triples.result (λ less held after changed h. counted_as _ _ _ _ (recounted held c.args.gone.now c.args.come.now after changed) (less _ (c.in_ok-add_triples.ensures.out _ h))) c.take_triples.ensures.out

pub returns-clause-into : goal.returns-clause-into
returns-clause-into c = on_ok c.take_triples.result (λ less into held after changed h k. counted_as _ _ _ _ (λ y x. recounted held c.args.gone.now c.args.come.now after changed x y) (less into _ (c.in_ok-add_triples.ensures.out _ h) (c.in_ok-add_triples.ensures.into into _ h k))) c.take_triples.ensures.into
