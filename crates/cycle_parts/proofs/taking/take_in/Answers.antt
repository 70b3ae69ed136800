use Rattle.std.proofs.Common.{◌+◌, drop, ap, sym, subst, ◌∙◌}
use Rattle.matching_laws.specs.Telling.{AreInsertable, with_each}
use Rattle.cycle_parts.proofs.TakingLemmas.{next_is_new, next_joins}
use Rattle.cycle_parts.proofs.taking.take_in.Goals as goal

pub element_comes-requires : goal.element_comes-requires
element_comes-requires g c = record {
  new = λ _. (next_is_new (g.M.Matcher.elements c.elements.matcher) c.args.elements.now c.elements.element-index _ c.elements-test.true c.elements.invariant.insertable).0;
}

pub elements-preserved : goal.elements-preserved
elements-preserved g c =
    let elements = c.args.elements.now in
    let i = c.elements.element-index in
    let held = g.M.Matcher.elements c.elements.matcher in
    record {
      works = c.in_ok-element_comes.ensures.works.works;
      rules = c.in_ok-element_comes.ensures.rules ∙ c.elements.invariant.rules;
      insertable = subst (λ held. AreInsertable held (drop (i + 1) elements)) (sym c.in_ok-element_comes.ensures.elements) (next_is_new held elements i _ c.elements-test.true c.elements.invariant.insertable).1;
      whole = ap (λ held. with_each held (drop (i + 1) elements)) c.in_ok-element_comes.ensures.elements ∙ next_joins held elements i _ c.elements-test.true ∙ c.elements.invariant.whole;
      knows = λ live is. c.in_ok-element_comes.ensures.knows live (c.elements.invariant.knows live is);
    }
