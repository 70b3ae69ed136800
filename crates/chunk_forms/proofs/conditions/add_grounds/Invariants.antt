use Rattle.std.proofs.Common.{◌≡◌, ◌++◌, drop, map}
use Rattle.soar_rule.specs.Conditions.{condition}
use Rattle.carried_tests.specs.Seen.{placed_seen}
use Rattle.defs_soar.specs.Candidate.{conditions_from}
use Rattle.chunk_forms.proofs.conditions.add_grounds.Given as goal

abbrev pub invariant-elements : goal.invariant-elements
invariant-elements l =
    map condition l.conds ++ conditions_from (map placed_seen l.placed) l.first (drop l.element-index l.elements)
    ≡ map condition l.initial.conds ++ conditions_from (map placed_seen l.placed) 0 l.elements
