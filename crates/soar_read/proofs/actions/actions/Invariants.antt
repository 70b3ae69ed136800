use Rattle.std.proofs.Common.{◌≡◌, true, map, drop}
use Rattle.soar_rule.specs.Productions.{action_seen}
use Rattle.defs_read.specs.ActionExpansion.{actions_of}
use Rattle.tree_parts.specs.Seen.{action_seen as tree_seen}
use Rattle.read_parts.specs.Expanding.{behind}
use Rattle.read_parts.specs.Naming.{are_kept, fresh_seen}
use Rattle.soar_read.proofs.actions.actions.Given as goal

abbrev pub invariant-trees : goal.invariant-trees
invariant-trees l = record {
  kept : are_kept l.source l.names ≡ true;
  rest : actions_of l.source.table.now (map (tree_seen l.source.table.now) l.trees) (fresh_seen l.source l.initial.names)
      ≡ behind (map action_seen l.actions) (actions_of l.source.table.now (map (tree_seen l.source.table.now) (drop l.tree-index l.trees)) (fresh_seen l.source l.names));
}
