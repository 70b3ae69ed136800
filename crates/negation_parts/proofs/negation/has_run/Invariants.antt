use Rattle.std.proofs.Common.{◌≡◌}
use Rattle.node_memory.specs.Memories.{entries_not_below}
use Rattle.negation_parts.specs.Negations.{first_begins}
use Rattle.negation_parts.proofs.negation.has_run.Given as goal

abbrev pub invariant-run : goal.invariant-run
invariant-run l = first_begins l.front l.tags-iterator ≡ first_begins l.front (entries_not_below l.front l.rows.entries)
