-- Why conditions were left, as the definitions have it.
use Rattle.std.specs.Prelude.{Option, option_map}
use Rattle.soar_rule.specs.Checking.{Fault, told, unbound, unconnected}
use Rattle.soar_rule.specs.MatchOrder.{or_else}
use Rattle.rule_check.specs.declared.level.Left.{Left}

-- what a positive one lacks, where one stands, or what a negation lacks
abbrev pub stop_seen : Left → Option Fault
stop_seen left = or_else (option_map unbound left.positive) (or_else (option_map (λ place. unconnected (told place)) left.place) (option_map unbound left.negation))
