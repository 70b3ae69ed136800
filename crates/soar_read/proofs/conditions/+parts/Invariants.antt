use Rattle.std.proofs.Common.{◌≡◌, true, map, drop}
use Rattle.soar_rule.specs.Conditions.{condition}
use Rattle.defs_read.specs.ConditionExpansion.{parts_conditions}
use Rattle.defs_read.specs.Reading.{parts_of}
use Rattle.tree_parts.specs.Seen.{part_seen}
use Rattle.read_parts.specs.Expanding.{behind}
use Rattle.read_parts.specs.Naming.{are_kept, fresh_seen}
use Rattle.soar_read.proofs.conditions.+parts.Given as goal

abbrev pub invariant-parts-trees : goal.invariant-parts-trees
invariant-parts-trees l = record {
  kept : are_kept l.source l.names ≡ true;
  rest : parts_conditions (parts_of (map (part_seen l.source.table.now) l.trees)) l.source.table.now (fresh_seen l.source l.initial.names)
      ≡ behind (map condition l.conds) (parts_conditions (parts_of (map (part_seen l.source.table.now) (drop l.tree-index l.trees))) l.source.table.now (fresh_seen l.source l.names));
}
