use Rattle.std.proofs.Common.{◌≡◌, ◌∷◌, true, map, drop}
use Rattle.defs_read.specs.FieldExpansion.{tests_of}
use Rattle.tree_parts.specs.Seen.{simple_seen}
use Rattle.read_parts.specs.Expanding.{behind}
use Rattle.read_parts.specs.Naming.{are_kept, fresh_seen}
use Rattle.read_parts.proofs.fields.tests.Given as goal

abbrev pub invariant-others : goal.invariant-others
invariant-others l = record {
  kept : are_kept l.source l.names ≡ true;
  rest : tests_of l.source.table.now (simple_seen l.source.table.now l.fn.first ∷ map (simple_seen l.source.table.now) l.others) (fresh_seen l.source l.fn.names)
      ≡ behind l.tests (tests_of l.source.table.now (map (simple_seen l.source.table.now) (drop l.simple-index l.others)) (fresh_seen l.source l.names));
}
