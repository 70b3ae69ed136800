use Rattle.std.proofs.Common.{◌≡◌, ◌+◌, map, drop}
use Rattle.soar_rule.specs.Productions.{action_seen}
use Rattle.soar_fire.specs.ActionOutcomes.{actions_outcome}
use Rattle.soar_fire.specs.Growth.{OnlyGains}
use Rattle.soar_fire.specs.Known.{Knows, KnowsWishes, bound_symbols, constants_of_actions}
use Rattle.soar_fire.specs.Outcomes.{standing}
use Rattle.soar_fire.proofs.action.with_actions.Given as goal

abbrev pub invariant-actions : goal.invariant-actions
invariant-actions l = record {
  bound : Knows l.table (bound_symbols l.bindings.items);
  constants : Knows l.table (constants_of_actions (map action_seen (drop l.action-index l.actions)));
  wishes : KnowsWishes l.table l.made.wishes;
  gains : OnlyGains l.initial.table l.initial.letters l.table l.letters;
  place : l.place ≡ l.action-index;
  rest : actions_outcome l.scene.vars.now l.scene.goals.now (l.place + 1) (map action_seen (drop l.action-index l.actions)) l.made (standing l.bindings.items l.table l.letters)
      ≡ actions_outcome l.scene.vars.now l.scene.goals.now 1 (map action_seen l.actions) l.initial.made (standing l.initial.bindings.items l.initial.table l.initial.letters);
}
