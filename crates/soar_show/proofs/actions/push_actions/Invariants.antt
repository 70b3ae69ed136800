use Rattle.std.proofs.Common.{◌≡◌, ◌++◌, drop, flat_map, map}
use Rattle.soar_rule.specs.Productions.{action_seen}
use Rattle.soar_rule.specs.Symbols.{constants_of_action}
use Rattle.defs_read.specs.Printing.{action_text}
use Rattle.soar_show.specs.Known.{Knows}
use Rattle.soar_show.specs.Lines.{inner_text}
use Rattle.soar_show.proofs.actions.push_actions.Given as goal

abbrev pub invariant-actions : goal.invariant-actions
invariant-actions l = record {
  known : Knows l.names.words (flat_map constants_of_action (map action_seen (drop l.action-index l.actions)));
  text : l.out ++ inner_text (map (action_text l.names) (map action_seen (drop l.action-index l.actions))) ≡ l.initial.out ++ inner_text (map (action_text l.names) (map action_seen l.actions));
}
