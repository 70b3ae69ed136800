use Rattle.soar_rule.specs.Conditions.{conditions}
use Rattle.chunk_replay.specs.LookedUp.{nothing, of_tags, pass, Stands}
use Rattle.chunk_replay.proofs.passing.conditions_pass.Given as goal

abbrev pub invariant-conds : goal.invariant-conds
invariant-conds l = Stands l.conds l.place (of_tags l.used l.tags) (of_tags l.used l.rest) (pass nothing (conditions l.conds) (of_tags l.used l.tags))
