use Rattle.std.proofs.Common.{◌∙◌, [], sym, subst}
use Rattle.live_firings.specs.Living.{Firings}
use Rattle.cycle_parts.proofs.engine.Engine.new.Goals as goal

pub take_first-requires-clause-none : goal.take_first-requires-clause-none
take_first-requires-clause-none g c = c.begin.ensures.elements c.requires.works ∙ c.requires.elements

pub returns-in-Ok-clause-bond : goal.returns-in-Ok-clause-bond
returns-in-Ok-clause-bond g c = record {
  works = c.in_ok-take_first.ensures.works;
  rules_are = c.in_ok-take_first.ensures.rules ∙ c.begin.ensures.rules c.requires.works ∙ c.requires.rules ∙ sym c.in-Ok.ensures.stands.rules;
  elements_are = c.in_ok-take_first.ensures.elements ∙ sym c.in-Ok.ensures.stands.elements;
  known = subst (λ (live : Firings). g.M.Outstanding.knows c.take_first.new.matcher live.told) (sym c.in-Ok.ensures.live) (c.in_ok-take_first.ensures.knows [] c.begin.ensures.knows);
}
