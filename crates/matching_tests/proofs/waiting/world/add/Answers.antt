use Rattle.matching_tests.proofs.WaitingWorldLemmas.{may_come, told_new}
use Rattle.matching_tests.proofs.waiting.world.add.Goals as goal

pub element_comes-requires : goal.element_comes-requires
element_comes-requires g c = record {
  new = λ _. may_come (g.M.Matcher.elements c.args.matcher.now) c.element_for.result c.args.world.now.memory c.add.new.self c.args.triple c.is_state-of_state.result c.in-Ok.tag
      c.requires.elements_are c.requires.lawful c.in-Ok.ensures.answer c.element_for.ensures;
}

pub returns-in_ok-element_comes-in-Ok-clause-told : goal.returns-in_ok-element_comes-in-Ok-clause-told
returns-in_ok-element_comes-in-Ok-clause-told g c =
    let told = c.in_ok-element_comes-in-Ok.ensures in
    told_new (g.M.Matcher.failed c.args.matcher.now) (g.M.Matcher.failed c.element_comes.new.self) (g.M.Matcher.rules c.args.matcher.now) (g.M.Matcher.rules c.element_comes.new.self)
    (g.M.Matcher.elements c.args.matcher.now) (g.M.Matcher.elements c.element_comes.new.self) c.args.world.now.memory c.add.new.self c.args.world.now.numbers.items
    c.element_for.result c.args.triple c.is_state-of_state.result c.in-Ok.tag c.requires c.in-Ok.ensures.answer c.add.ensures.lawful c.element_for.ensures told.works.works told.rules told.elements
