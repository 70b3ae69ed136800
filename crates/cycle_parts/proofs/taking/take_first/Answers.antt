use Rattle.std.proofs.Common.{◌∙◌, refl}
use Rattle.defs_soar.specs.Start.{first_elements}
use Rattle.cycle_parts.proofs.TellingLemmas.{starts_insertable, starts_whole}
use Rattle.cycle_parts.proofs.taking.take_first.Goals as goal

pub take_in-requires-clause-insertable : goal.take_in-requires-clause-insertable
take_in-requires-clause-insertable g c = starts_insertable (g.M.Matcher.elements c.args.matcher.now) first_elements c.requires.none refl

pub returns-clause-elements : goal.returns-clause-elements
returns-clause-elements g c = c.in_ok-take_in.ensures.elements ∙ starts_whole (g.M.Matcher.elements c.args.matcher.now) first_elements c.requires.none refl
