use Rattle.std.proofs.Common.{◌≡◌, ◌∷◌, true, map, drop}
use Rattle.soar_rule.specs.Productions.{action_seen}
use Rattle.defs_read.specs.ActionExpansion.{makes_actions}
use Rattle.tree_parts.specs.Seen.{attribute_make_seen}
use Rattle.read_parts.specs.Expanding.{behind}
use Rattle.read_parts.specs.Naming.{are_kept, fresh_seen}
use Rattle.soar_read.proofs.actions.makes_actions.Given as goal

abbrev pub invariant-others : goal.invariant-others
invariant-others l = record {
  kept : are_kept l.source l.names ≡ true;
  rest : makes_actions l.source.table.now l.fn.id (attribute_make_seen l.source.table.now l.fn.first ∷ map (attribute_make_seen l.source.table.now) l.others) (fresh_seen l.source l.fn.names)
      ≡ behind (map action_seen l.actions) (makes_actions l.source.table.now l.fn.id (map (attribute_make_seen l.source.table.now) (drop l.made-index l.others)) (fresh_seen l.source l.names));
}
