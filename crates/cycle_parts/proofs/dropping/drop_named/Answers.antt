use Rattle.std.proofs.Common.{refl}
use Rattle.cycle_parts.proofs.dropping.drop_named.Goals as goal

pub returns-clause-dropped : goal.returns-clause-dropped
returns-clause-dropped g c = record { rules_are = c.drop_rules.ensures.dropped; chains_are = c.drop_chains.ensures; same = refl }
