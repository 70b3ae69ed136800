use Rattle.std.proofs.Common.{◌≡◌, drop}
use Rattle.soar_rule.specs.Equality.{list_eq}
use Rattle.chunk_learn.specs.Seen.{seen_action_eq}
use Rattle.chunk_learn.proofs.actions.same_actions.Given as goal

abbrev pub invariant-actions : goal.invariant-actions
invariant-actions l = list_eq seen_action_eq (drop l.action-index l.a) l.rest ≡ list_eq seen_action_eq l.a l.b
