use Rattle.std.proofs.Common.{◌∙◌, subst}
use Rattle.cycle_parts.proofs.ExcisedLemmas.{elements_stay, excises, told_stays}
use Rattle.cycle_parts.proofs.LawfulLemmas.{lawful_excised}
use Rattle.cycle_parts.proofs.SoundLemmas.{sound_dropped}
use Rattle.cycle_parts.proofs.engine.Engine.excise.Goals as goal

pub returns-clause-step : goal.returns-clause-step
returns-clause-step g c = excises c.args.self.now.parts c.drop_named.new.parts c.args.name c.drop_named.ensures.dropped

pub returns-clause-sound : goal.returns-clause-sound
returns-clause-sound g c = sound_dropped c.args.self.now.parts c.drop_named.new.parts c.args.name c.requires.sound c.drop_named.ensures.dropped

pub returns-clause-lawful : goal.returns-clause-lawful
returns-clause-lawful g c =
    lawful_excised c.args.self.now.parts c.drop_named.new.parts c.args.name c.requires.lawful
    (excises c.args.self.now.parts c.drop_named.new.parts c.args.name c.drop_named.ensures.dropped)

pub returns-clause-bond : goal.returns-clause-bond
returns-clause-bond g c = record {
  works = c.drop_named.ensures.works;
  rules_are = c.drop_named.ensures.held;
  known = subst (g.M.Outstanding.knows c.drop_named.new.matcher) (told_stays c.args.self.now.parts c.drop_named.new.parts c.args.name c.drop_named.ensures.dropped)
      (c.drop_named.ensures.knows c.args.self.now.parts.live.told c.requires.bond.known);
  elements_are = c.drop_named.ensures.elements ∙ c.requires.bond.elements_are ∙ elements_stay c.args.self.now.parts c.drop_named.new.parts c.args.name c.drop_named.ensures.dropped;
}
