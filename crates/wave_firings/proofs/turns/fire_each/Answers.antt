use Rattle.std.proofs.Common.{◌≤◌, ◌+◌, length, map, Ok, Err, refl, sym, ◌∙◌, arith, subst}
use Rattle.std.proofs.lemmas.Result.{err_from_is_err_and}
use Rattle.defs_match.specs.Rules.{rule_seen}
use Rattle.firing_records.specs.Recorded.{standing}
use Rattle.pending_work.specs.Firables.{firables_for}
use Rattle.wave_firings.specs.FiringOutcome.{gathered, Leaves, LeavesOne}
use Rattle.soar_fire.specs.Growth.{OnlyGains}
use Rattle.soar_fire.proofs.GrowthLemmas.{gains_both, gains_none, gains_twice, no_shorter}
use Rattle.wave_firings.specs.Held.{against}
use Rattle.wave_firings.proofs.FiringKnown.{goals_grown, instance_bound, instance_known, instances_grown, rules_grown}
use Rattle.wave_firings.proofs.FiringLemmas.{next_fires, next_over, next_stops}
use Rattle.wave_firings.proofs.turns.fire_each.Goals as goal

pub instances-init : goal.instances-init
instances-init c = record {
  number = omega arith;
  bound = c.requires.bound;
  rules = c.requires.rules;
  goals = c.requires.goals;
  instances = c.requires.instances;
  entries = c.requires.entries;
  gains = gains_none _ _;
  rest = refl;
}

pub instances-preserved : goal.instances-preserved
instances-preserved c =
    let a = against (standing c.args.scene.now.before.now) in
    let rules = map rule_seen c.args.scene.now.rules.now in
    let elements = c.args.scene.now.before.now.memory.now.elements in
    let instances = c.args.instances.now in
    let place = c.instances.instance-index in
    let i = c.instance-item.result in
    let number = c.in_ok-number.number in
    let bound = instance_bound rules instances place i c.instances.invariant.bound c.instances-test.true c.instance-item.is in
    let known = instance_known c.instances.table instances place i c.instances.invariant.instances c.instances-test.true c.instance-item.is in
    let after = gathered c.fire_one.new.table c.fire_one.new.letters number c.fire_one.new.fired in
    let leaves : LeavesOne a number (gathered c.instances.table c.instances.letters number c.instances.fired) (firables_for rules elements i) after (Ok tt) = c.in_ok-fire_one.ensures.answer in
    let one : OnlyGains c.instances.table c.instances.letters c.fire_one.new.table c.fire_one.new.letters = gains_both _ _ _ _ c.fire_one.ensures.words c.fire_one.ensures.letters in
    let longer : length c.instances.table ≤ length c.fire_one.new.table = no_shorter _ _ one.words_grow in
    record {
      number = omega (arith, c.in_ok-number.ensures.next, c.instances.invariant.number);
      bound = bound.1;
      rules = rules_grown _ _ _ c.instances.invariant.rules longer;
      goals = goals_grown _ _ _ c.instances.invariant.goals longer;
      instances = instances_grown c.instances.table _ _ (record { are_known = known.1 }) longer;
      entries = c.in_ok-fire_one.ensures.entries;
      gains = gains_twice _ _ _ _ _ _ c.instances.invariant.gains one;
      rest =
          sym (next_fires a c.instances.table c.instances.letters c.instances.fired c.instances.number rules instances place i c.instances-test.true c.instance-item.is
          number after c.in_ok-number.ensures.next c.in_ok-number.ensures.within bound.0 leaves)
          ∙ c.instances.invariant.rest;
    }

pub returns-in_err-number-clause-answer : goal.returns-in_err-number-clause-answer
returns-in_err-number-clause-answer c =
    let rules = map rule_seen c.args.scene.now.rules.now in
    let instances = c.args.instances.now in
    let place = c.instances.instance-index in
    let i = c.instance-item.result in
    let bound = instance_bound rules instances place i c.instances.invariant.bound c.instances-test.true c.instance-item.is in
    let p = err_from_is_err_and c.from_residual.result c.from_residual.ensures.1 in
    rw (p.1, p.2, c.in_err-number.ensures.limit)
    (sym c.instances.invariant.rest
    ∙ next_over (against (standing c.args.scene.now.before.now)) c.instances.table c.instances.letters c.instances.fired c.instances.number rules instances place i c.instances-test.true c.instance-item.is
    c.in_err-number.ensures.spent bound.0)

pub returns-in_err-fire_one-clause-answer : goal.returns-in_err-fire_one-clause-answer
returns-in_err-fire_one-clause-answer c =
    let a = against (standing c.args.scene.now.before.now) in
    let rules = map rule_seen c.args.scene.now.rules.now in
    let elements = c.args.scene.now.before.now.memory.now.elements in
    let instances = c.args.instances.now in
    let place = c.instances.instance-index in
    let i = c.instance-item.result in
    let number = c.in_ok-number.number in
    let bound = instance_bound rules instances place i c.instances.invariant.bound c.instances-test.true c.instance-item.is in
    let after = gathered c.fire_one.new.table c.fire_one.new.letters number c.fire_one.new.fired in
    let last = gathered c.fire_one.new.table c.fire_one.new.letters (c.args.last + length instances) c.fire_one.new.fired in
    let e = c.in_err-fire_one.field-0.0 in
    let leaves : LeavesOne a number (gathered c.instances.table c.instances.letters number c.instances.fired) (firables_for rules elements i) after (Err e) = c.in_err-fire_one.ensures.answer in
    let p = err_from_is_err_and c.from_residual-in_err-fire_one.result c.from_residual-in_err-fire_one.ensures.1 in
    rw (p.1, p.2)
    (subst (λ o. Leaves o last (Err e)) c.instances.invariant.rest
    (next_stops a c.instances.table c.instances.letters c.instances.fired c.instances.number rules instances place i c.instances-test.true c.instance-item.is
    number after last e c.in_ok-number.ensures.next c.in_ok-number.ensures.within bound.0 leaves))

pub returns-in_err-fire_one-clause-gains : goal.returns-in_err-fire_one-clause-gains
returns-in_err-fire_one-clause-gains c = gains_twice _ _ _ _ _ _ c.instances.invariant.gains (gains_both _ _ _ _ c.fire_one.ensures.words c.fire_one.ensures.letters)
