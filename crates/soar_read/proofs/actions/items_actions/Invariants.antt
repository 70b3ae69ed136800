use Rattle.std.proofs.Common.{◌≡◌, ◌∷◌, true, map, drop}
use Rattle.soar_rule.specs.Productions.{action_seen, value_seen}
use Rattle.defs_read.specs.ActionExpansion.{items_actions}
use Rattle.tree_parts.specs.Seen.{item_seen}
use Rattle.read_parts.specs.Expanding.{behind}
use Rattle.read_parts.specs.Naming.{are_kept, fresh_seen}
use Rattle.soar_read.proofs.actions.items_actions.Given as goal

abbrev pub invariant-others : goal.invariant-others
invariant-others l = record {
  kept : are_kept l.source l.names ≡ true;
  rest : items_actions l.source.table.now l.fn.id (value_seen l.fn.attr) (item_seen l.source.table.now l.fn.first ∷ map (item_seen l.source.table.now) l.others) (fresh_seen l.source l.fn.names)
      ≡ behind (map action_seen l.actions) (items_actions l.source.table.now l.fn.id (value_seen l.fn.attr) (map (item_seen l.source.table.now) (drop l.item-index l.others)) (fresh_seen l.source l.names));
}
