use Rattle.std.proofs.Common.{◌≡◌, true, map, drop}
use Rattle.soar_rule.specs.Productions.{action_seen, value_seen}
use Rattle.defs_read.specs.ActionExpansion.{wishes_actions}
use Rattle.tree_parts.specs.Seen.{wish_seen}
use Rattle.read_parts.specs.Expanding.{behind}
use Rattle.read_parts.specs.Naming.{are_kept, fresh_seen}
use Rattle.soar_read.proofs.actions.wishes_actions.Given as goal

abbrev pub invariant-wishes : goal.invariant-wishes
invariant-wishes l = record {
  kept : are_kept l.source l.names ≡ true;
  rest : wishes_actions l.source.table.now l.fn.id (value_seen l.fn.attr) (value_seen l.fn.value) (map (wish_seen l.source.table.now) l.wishes) (fresh_seen l.source l.initial.names)
      ≡ behind (map action_seen l.actions) (wishes_actions l.source.table.now l.fn.id (value_seen l.fn.attr) (value_seen l.fn.value) (map (wish_seen l.source.table.now) (drop l.wish-index l.wishes)) (fresh_seen l.source l.names));
}
