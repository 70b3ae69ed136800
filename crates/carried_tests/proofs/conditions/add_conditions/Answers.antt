use Rattle.std.proofs.Common.{◌+◌, ap, sym, arith, drop, map}
use Rattle.std.specs.Option.{option_copied}
use Rattle.soar_rule.specs.Conditions.{condition, conditions}
use Rattle.carried_tests.specs.Parts.{tests_of_condition}
use Rattle.carried_tests.specs.Seen.{carried_seen}
use Rattle.carried_tests.proofs.PartLemmas.{joined, next_conditions}
use Rattle.defs_soar.specs.CarriedTests.{tests_of_conditions}
use Rattle.carried_tests.proofs.conditions.add_conditions.Goals as goal

pub conds-preserved : goal.conds-preserved
conds-preserved c =
    let bindings = c.args.bindings.now in
    let conds = c.args.conds.now in
    let elements = c.args.elements.now in
    let index = c.conds.cond-index in
    let next = c.conds.at + c.taken_by-at.result in
    let taken = ap (λ k. c.conds.at + k) c.taken_by-at.ensures.taken in
    record {
      few = omega (arith, c.conds.invariant.few, c.taken_by-at.ensures.few);
      whole = joined (map carried_seen c.conds.tests.items) (tests_of_condition bindings (condition c.cond-item.result) (option_copied c.get.result))
          (tests_of_conditions bindings (conditions (drop (index + 1) conds)) (drop next elements))
          (tests_of_conditions bindings (conditions (drop index conds)) (drop c.conds.at elements))
          _ _ c.in_ok-add_condition.ensures
          (next_conditions bindings conds index c.cond-item.result elements c.conds.at next (option_copied c.get.result) c.conds-test.true c.cond-item.is (sym c.get.ensures.value) taken)
          c.conds.invariant.whole;
    }
