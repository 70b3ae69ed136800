use Rattle.std.proofs.Common.{◌≡◌, ◌+◌, map, drop}
use Rattle.defs_match.specs.Rules.{rule_seen}
use Rattle.soar_fire.specs.Growth.{OnlyGains}
use Rattle.pending_work.specs.Firables.{AreBound}
use Rattle.wave_firings.specs.FiringOutcome.{gathered, instances_outcome, KnowsEntries, KnowsGoals, KnowsInstances, KnowsRules}
use Rattle.firing_records.specs.Recorded.{standing}
use Rattle.wave_entries.specs.Entries.{entry_seen}
use Rattle.wave_firings.specs.Held.{against}
use Rattle.wave_firings.proofs.turns.fire_each.Given as goal

abbrev pub invariant-instances : goal.invariant-instances
invariant-instances l = record {
  number : l.number ≡ l.last + l.instance-index;
  bound : AreBound (map rule_seen l.scene.rules.now) (drop l.instance-index l.instances);
  rules : KnowsRules l.table (map rule_seen l.scene.rules.now);
  goals : KnowsGoals l.table l.scene.before.now.goals.now;
  instances : KnowsInstances l.table (drop l.instance-index l.instances);
  entries : KnowsEntries l.table (map entry_seen l.fired.entries);
  gains : OnlyGains l.initial.table l.initial.letters l.table l.letters;
  rest : instances_outcome (against (standing l.scene.before.now)) (map rule_seen l.scene.rules.now) (drop l.instance-index l.instances) (gathered l.table l.letters l.number l.fired)
      ≡ instances_outcome (against (standing l.scene.before.now)) (map rule_seen l.scene.rules.now) l.instances (gathered l.initial.table l.initial.letters l.last l.initial.fired);
}
