use Rattle.std.proofs.Common.{◌≡◌, drop, flat_map, map}
use Rattle.defs_soar.specs.Sorted.{has_symbol}
use Rattle.soar_rule.specs.Productions.{action_seen}
use Rattle.soar_rule.specs.Symbols.{constants_of_action}
use Rattle.chain_identifiers.proofs.constants.has_in_actions.Given as goal

abbrev pub invariant-actions : goal.invariant-actions
invariant-actions l = has_symbol (flat_map constants_of_action (map action_seen (drop l.action-index l.actions))) l.symbol ≡ has_symbol (flat_map constants_of_action (map action_seen l.actions)) l.symbol
