use Rattle.std.proofs.Common.{◌+◌, length, map, Err, ap₂, subst}
use Rattle.std.proofs.lemmas.Result.{err_from_is_err_and}
use Rattle.defs_match.specs.Rules.{rule_seen}
use Rattle.firing_records.specs.Recorded.{standing}
use Rattle.wave_firings.specs.FiringOutcome.{Leaves, gathered, instances_outcome}
use Rattle.wave_firings.specs.Held.{against}
use Rattle.wave_firings.proofs.FiringAgreement.{fires_all, stops_all}
use Rattle.wave_firings.proofs.RecordedLemmas.{goals_all, makers_all, numbers_all}
use Rattle.wave_firings.proofs.firing.fire_all.Goals as goal

pub returns-in_err-fire_each-clause-answer : goal.returns-in_err-fire_each-clause-answer
returns-in_err-fire_each-clause-answer c =
    let p = err_from_is_err_and c.from_residual-in_err-fire_each.result c.from_residual-in_err-fire_each.ensures.1 in
    let e = c.in_err-fire_each.field-0.0 in
    let s = standing c.args.before.now in
    let rules = map rule_seen c.args.rules.now in
    let after = gathered c.fire_each.new.table c.fire_each.new.letters (c.args.last + length c.as_slice.result.now) c.fire_each.new.fired in
    let same = ap₂ (λ instances start. instances_outcome (against s) rules instances (gathered c.args.table.now c.args.letters.now c.args.last start)) c.as_slice.ensures c.in_ok-fired.ensures in
    rw (p.1, p.2)
    (stops_all c.args.table.now c.args.letters.now s c.args.last rules c.args.instances.now c.fire_each.new.table c.fire_each.new.letters after e
    (subst (λ o. Leaves o after (Err e)) same c.in_err-fire_each.ensures.answer))

pub returns-clause-answer : goal.returns-clause-answer
returns-clause-answer c =
    fires_all c.args.table.now c.args.letters.now (standing c.args.before.now) c.args.last (map rule_seen c.args.rules.now) c.args.instances.now c.fire_each.new.table c.fire_each.new.letters c.fire_each.new.fired
    (rw (c.as_slice.ensures, c.in_ok-fired.ensures) at c.in_ok-fire_each.ensures.answer)

pub returns-clause-numbers : goal.returns-clause-numbers
returns-clause-numbers c =
    numbers_all (standing c.args.before.now) (map rule_seen c.args.rules.now) c.args.instances.now c.args.table.now c.args.letters.now c.args.last c.fire_each.new.table c.fire_each.new.letters c.fire_each.new.fired
    (rw (c.as_slice.ensures, c.in_ok-fired.ensures) at c.in_ok-fire_each.ensures.answer)

pub returns-clause-earlier : goal.returns-clause-earlier
returns-clause-earlier c rows makers =
    makers_all (standing c.args.before.now) (map rule_seen c.args.rules.now) c.args.instances.now c.args.table.now c.args.letters.now c.args.last c.fire_each.new.table c.fire_each.new.letters c.fire_each.new.fired
    (rw (c.as_slice.ensures, c.in_ok-fired.ensures) at c.in_ok-fire_each.ensures.answer) rows makers

pub returns-clause-goals : goal.returns-clause-goals
returns-clause-goals c =
    goals_all (standing c.args.before.now) (map rule_seen c.args.rules.now) c.args.instances.now c.args.table.now c.args.letters.now c.args.last c.fire_each.new.table c.fire_each.new.letters c.fire_each.new.fired
    (rw (c.as_slice.ensures, c.in_ok-fired.ensures) at c.in_ok-fire_each.ensures.answer)

pub returns-in_err-fire_each-clause-words : goal.returns-in_err-fire_each-clause-words
returns-in_err-fire_each-clause-words c = c.fire_each.ensures.gains.words_grow.grown

pub returns-in_err-fire_each-clause-letters : goal.returns-in_err-fire_each-clause-letters
returns-in_err-fire_each-clause-letters c = c.fire_each.ensures.gains.letters_rise.kept

pub returns-clause-words : goal.returns-clause-words
returns-clause-words c = c.fire_each.ensures.gains.words_grow.grown

pub returns-clause-letters : goal.returns-clause-letters
returns-clause-letters c = c.fire_each.ensures.gains.letters_rise.kept
