use Rattle.std.proofs.Common.{◌≡◌, true, map, drop}
use Rattle.soar_rule.specs.Productions.{value_seen}
use Rattle.defs_read.specs.ActionExpansion.{values_of}
use Rattle.defs_read.specs.ReadingValues.{terms_of}
use Rattle.tree_parts.specs.Seen.{term_seen}
use Rattle.read_parts.specs.Expanding.{behind, listed}
use Rattle.read_parts.specs.Naming.{are_kept, fresh_seen}
use Rattle.read_parts.proofs.terms.+terms.Given as goal

abbrev pub invariant-values-terms : goal.invariant-values-terms
invariant-values-terms l = record {
  kept : are_kept l.source l.names ≡ true;
  rest : listed (values_of (terms_of (map (term_seen l.source.table.now) l.terms)) l.source.table.now (fresh_seen l.source l.initial.names))
      ≡ behind (map value_seen l.values) (listed (values_of (terms_of (map (term_seen l.source.table.now) (drop l.term-index l.terms))) l.source.table.now (fresh_seen l.source l.names)));
}
