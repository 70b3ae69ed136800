use Rattle.std.proofs.Common.{◌≡◌, map, take}
use Rattle.soar_rule.specs.Productions.{action_seen}
use Rattle.soar_rule.specs.Renaming.{action_with}
use Rattle.defs_soar.specs.Candidate.{action_of, with_variables}
use Rattle.chunk_variables.proofs.actions.actions_of.Given as goal

abbrev pub invariant-results : goal.invariant-results
invariant-results l = map action_seen l.actions ≡ map (λ w. action_with (with_variables l.given.general l.given.variables.now) (action_of w)) (take l.wish-index l.results)
