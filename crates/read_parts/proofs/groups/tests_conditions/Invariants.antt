use Rattle.std.proofs.Common.{◌≡◌, true, map, drop}
use Rattle.soar_rule.specs.Conditions.{condition}
use Rattle.defs_read.specs.ConditionExpansion.{tests_conditions}
use Rattle.tree_parts.specs.Seen.{attribute_test_seen}
use Rattle.read_parts.specs.Expanding.{behind}
use Rattle.read_parts.specs.Naming.{are_kept, fresh_seen}
use Rattle.read_parts.proofs.groups.tests_conditions.Given as goal

abbrev pub invariant-tests : goal.invariant-tests
invariant-tests l = record {
  kept : are_kept l.source l.names ≡ true;
  rest : tests_conditions l.source.table.now l.fn.state l.fn.id (map (attribute_test_seen l.source.table.now) l.tests) (fresh_seen l.source l.initial.names)
      ≡ behind (map condition l.conds) (tests_conditions l.source.table.now l.fn.state l.fn.id (map (attribute_test_seen l.source.table.now) (drop l.test-index l.tests)) (fresh_seen l.source l.names));
}
