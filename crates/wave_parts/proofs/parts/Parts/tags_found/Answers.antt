use Rattle.std.proofs.Common.{◌∙◌, ◌++◌, ap, length, sym, subst, arith}
use Rattle.agent_laws.specs.Dependence.{MakersAreEarlier}
use Rattle.goal_dependence.specs.Remembered.{firings_of, CanJoin}
use Rattle.soar_record.specs.Recorded.{recorded}
use Rattle.wave_parts.proofs.SoundLemmas.{levels_told}
use Rattle.wave_parts.proofs.parts.Parts.tags_found.Goals as goal

pub tags_found-requires-clause-few : goal.tags_found-requires-clause-few
tags_found-requires-clause-few c = omega (arith, ap length (c.as_slice.ensures ∙ c.list.ensures.goals), c.requires.sound.goals_few)

pub tags_found-requires-clause-new : goal.tags_found-requires-clause-new
tags_found-requires-clause-new c = subst (λ firings. CanJoin (recorded c.args.self.now.past) (firings_of firings)) (sym c.as_slice-2.ensures) c.requires.new

pub tags_found-requires-clause-earlier : goal.tags_found-requires-clause-earlier
tags_found-requires-clause-earlier c = subst (λ firings. MakersAreEarlier (recorded c.args.self.now.past ++ firings_of firings)) (sym c.as_slice-2.ensures) c.requires.earlier

pub returns : goal.returns
returns c =
    let a = c.args.self.now in
    rw (c.as_slice.ensures, c.as_slice-2.ensures, c.as_slice-3.ensures, c.list.ensures.goals) at (c.tags_found.ensures a.goals a.memory.elements (levels_told a c.requires.sound))
