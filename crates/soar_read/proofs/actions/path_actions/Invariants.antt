use Rattle.std.proofs.Common.{◌≡◌, ◌∷◌, true, map, drop}
use Rattle.soar_rule.specs.Productions.{action_seen}
use Rattle.defs_read.specs.ActionExpansion.{action_path}
use Rattle.tree_parts.specs.Seen.{item_seen, term_seen}
use Rattle.read_parts.specs.Expanding.{behind}
use Rattle.read_parts.specs.Naming.{are_kept, fresh_seen}
use Rattle.soar_read.proofs.actions.path_actions.Given as goal

abbrev pub invariant-path : goal.invariant-path
invariant-path l = record {
  kept : are_kept l.source l.names ≡ true;
  rest : action_path l.source.table.now l.fn.id (term_seen l.source.table.now l.made.attribute) (map (term_seen l.source.table.now) l.made.path) (item_seen l.source.table.now l.made.item ∷ map (item_seen l.source.table.now) l.made.items) (fresh_seen l.source l.initial.names)
      ≡ behind (map action_seen l.actions) (action_path l.source.table.now l.id (term_seen l.source.table.now l.attribute) (map (term_seen l.source.table.now) (drop l.next-index l.made.path)) (item_seen l.source.table.now l.made.item ∷ map (item_seen l.source.table.now) l.made.items) (fresh_seen l.source l.names));
}
