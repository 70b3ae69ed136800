use Rattle.std.proofs.Common.{◌≡◌, true, map, drop}
use Rattle.soar_rule.specs.Conditions.{condition}
use Rattle.defs_read.specs.ConditionExpansion.{with_values}
use Rattle.tree_parts.specs.Seen.{value_test_seen}
use Rattle.read_parts.specs.Expanding.{behind}
use Rattle.read_parts.specs.Naming.{are_kept, fresh_seen}
use Rattle.read_parts.proofs.groups.with_values.Given as goal

abbrev pub invariant-values : goal.invariant-values
invariant-values l = record {
  kept : are_kept l.source l.names ≡ true;
  rest : with_values l.source.table.now l.fn.state l.fn.id l.fn.attr (map (value_test_seen l.source.table.now) l.values) (fresh_seen l.source l.initial.names)
      ≡ behind (map condition l.conds) (with_values l.source.table.now l.fn.state l.fn.id l.fn.attr (map (value_test_seen l.source.table.now) (drop l.test-index l.values)) (fresh_seen l.source l.names));
}
