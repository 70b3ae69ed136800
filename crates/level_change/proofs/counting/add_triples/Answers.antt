use Rattle.std.proofs.Common.{rules, ◌<◌, ◌≤◌, length, subst}
use Rattle.std.proofs.lemmas.List.{take_all}
use Rattle.level_change.specs.Edges.{with_all}
use Rattle.level_change.specs.Links.{IsCounted}
use Rattle.level_change.proofs.EdgeLemmas.{counted_as, with_step}
use Rattle.level_change.proofs.counting.add_triples.Goals as goal

pub triples-preserved : goal.triples-preserved
triples-preserved c =
    let triples = c.args.triples.now in
    let i = c.triples.triple-index in
    let lt : i < length triples = search rules in (
      (λ counts h. counted_as _ _ _ _ (λ x y. with_step triples i _ lt counts x y) (c.in_ok-add_triple.ensures.out _ (c.triples.invariant.0 counts h))),
      (λ into counts h k. counted_as _ _ _ _ (λ y x. with_step triples i _ lt counts x y) (c.in_ok-add_triple.ensures.into into _ (c.triples.invariant.0 counts h) (c.triples.invariant.1 into counts h k))),
    )

pub returns-clause-out : goal.returns-clause-out
returns-clause-out c = λ counts h.
    let all : length c.args.triples.now ≤ c.triples.triple-index = search rules in
    subst (λ l. IsCounted (with_all l counts) c.args.out.now.entries c.triples.out_late.entries) (take_all _ _ all) (c.triples.invariant.0 counts h)
