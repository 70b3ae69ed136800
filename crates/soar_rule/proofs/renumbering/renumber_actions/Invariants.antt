use Rattle.std.proofs.Common.{◌≡◌, map, None, take}
use Rattle.std.specs.Option.{option_copied}
use Rattle.soar_rule.specs.Renumbering.{renumbered_by}
use Rattle.soar_rule.specs.Productions.{action_seen}
use Rattle.soar_rule.specs.Renaming.{action_with}
use Rattle.soar_rule.proofs.renumbering.renumber_actions.Given as goal

abbrev pub invariant-actions : goal.invariant-actions
invariant-actions l = record {
  renumbered : map action_seen l.out ≡ map (λ a. action_with (renumbered_by (option_copied l.numbering)) (action_seen a)) (take l.action-index l.actions);
  kept : l.numbering ≡ None → l.out ≡ take l.action-index l.actions;
}
