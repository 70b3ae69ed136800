use Rattle.std.proofs.Common.{◌≡◌, true, map, drop}
use Rattle.soar_rule.specs.Conditions.{condition}
use Rattle.defs_read.specs.ConditionExpansion.{along}
use Rattle.tree_parts.specs.Seen.{field_seen, value_test_seen}
use Rattle.read_parts.specs.Expanding.{behind}
use Rattle.read_parts.specs.Naming.{are_kept, fresh_seen}
use Rattle.read_parts.proofs.groups.along.Given as goal

abbrev pub invariant-path : goal.invariant-path
invariant-path l = record {
  kept : are_kept l.source l.names ≡ true;
  rest : along l.source.table.now l.fn.state l.fn.id (field_seen l.source.table.now l.test.attribute) (map (field_seen l.source.table.now) l.test.path) (map (value_test_seen l.source.table.now) l.test.values) (fresh_seen l.source l.initial.names)
      ≡ behind (map condition l.conds) (along l.source.table.now l.state l.id (field_seen l.source.table.now l.attribute) (map (field_seen l.source.table.now) (drop l.next-index l.test.path)) (map (value_test_seen l.source.table.now) l.test.values) (fresh_seen l.source l.names));
}
