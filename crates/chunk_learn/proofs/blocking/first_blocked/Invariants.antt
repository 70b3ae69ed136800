use Rattle.std.proofs.Common.{◌≡◌, drop, map}
use Rattle.soar_rule.specs.Conditions.{condition}
use Rattle.chunk_learn.specs.Blocked.{told_from}
use Rattle.chunk_learn.proofs.blocking.first_blocked.Given as goal

abbrev pub invariant-negations : goal.invariant-negations
invariant-negations l = told_from l.place l.elements (map condition (drop l.negation-index l.negations)) ≡ told_from 1 l.elements (map condition l.negations)
