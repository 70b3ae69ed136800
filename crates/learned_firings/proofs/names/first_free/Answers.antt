use Rattle.std.proofs.Common.{◌≡◌, ◌∙◌, ◌+◌, ◌-◌, suc, sym, ap, subst, length, map, Ok, Err, None, Some, ℕ, arith}
use Rattle.std.proofs.lemmas.Result.{err_from_is_err_and}
use Rattle.defs_match.specs.Rules.{rule_seen}
use Rattle.defs_soar.specs.LearnedRules.{free_number}
use Rattle.learned_firings.specs.Naming.{Tries}
use Rattle.learned_firings.proofs.NameLemmas.{number_over, number_taken, tried_named, tried_over}
use Rattle.learned_firings.proofs.names.first_free.Goals as goal

pub returns-in_err-name-clause-answer : goal.returns-in_err-name-clause-answer
returns-in_err-name-clause-answer c =
    let words = c.args.table.now in
    let rules = map rule_seen c.args.rules.now in
    let front = c.args.front.now in
    let after = c.name_tried.new.table in
    let tries = c.len-end.result - c.tries.counter in
    let k = c.len-end.result - (c.tries.counter + 1) in
    let one : tries ≡ suc k = omega (arith, c.tries-test.true) in
    let whole = free_number (length c.args.rules.now) words rules front c.args.first in
    let p = err_from_is_err_and c.from_residual.result c.from_residual.ensures.1 in
    rw (p.1, p.2)
    (tried_over words after rules front tries k c.tries.number whole one c.tries.invariant.number c.in_err-name.field-0.0
    (subst (λ ws. Tries ws rules front c.tries.number after (Err c.in_err-name.field-0.0)) c.tries.invariant.table c.in_err-name.ensures.answer))

pub returns-in-Some-clause-answer : goal.returns-in-Some-clause-answer
returns-in-Some-clause-answer c =
    let words = c.args.table.now in
    let rules = map rule_seen c.args.rules.now in
    let front = c.args.front.now in
    let after = c.name_tried.new.table in
    let tries = c.len-end.result - c.tries.counter in
    let k = c.len-end.result - (c.tries.counter + 1) in
    let one : tries ≡ suc k = omega (arith, c.tries-test.true) in
    let whole = free_number (length c.args.rules.now) words rules front c.args.first in
    tried_named words after rules front tries k c.tries.number whole one c.tries.invariant.number c.in-Some.name
    (subst (λ ws. Tries ws rules front c.tries.number after (Ok (Some c.in-Some.name))) c.tries.invariant.table
    (subst (λ found. Tries c.tries.table rules front c.tries.number after (Ok found)) c.in-Some.is c.in_ok-name.ensures.answer))

pub returns-in_err-number-in-None-clause-answer : goal.returns-in_err-number-in-None-clause-answer
returns-in_err-number-in-None-clause-answer c =
    let words = c.args.table.now in
    let rules = map rule_seen c.args.rules.now in
    let front = c.args.front.now in
    let after = c.name_tried.new.table in
    let tries = c.len-end.result - c.tries.counter in
    let k = c.len-end.result - (c.tries.counter + 1) in
    let one : tries ≡ suc k = omega (arith, c.tries-test.true) in
    let whole = free_number (length c.args.rules.now) words rules front c.args.first in
    let tried =
    subst (λ ws. Tries ws rules front c.tries.number after (Ok None)) c.tries.invariant.table
    (subst (λ found. Tries c.tries.table rules front c.tries.number after (Ok found)) c.in-None.is c.in_ok-name.ensures.answer) in
    let p = err_from_is_err_and c.from_residual-in_err-number-in-None.result c.from_residual-in_err-number-in-None.ensures.1 in
    rw (p.1, p.2) (number_over words after rules front tries k c.tries.number whole c.in_err-number-in-None.field-0.0 one tried.1 c.in_err-number-in-None.ensures.answer c.tries.invariant.number)

pub tries-preserved : goal.tries-preserved
tries-preserved c =
    let words = c.args.table.now in
    let rules = map rule_seen c.args.rules.now in
    let front = c.args.front.now in
    let after = c.name_tried.new.table in
    let tries = c.len-end.result - c.tries.counter in
    let k = c.len-end.result - (c.tries.counter + 1) in
    let one : tries ≡ suc k = omega (arith, c.tries-test.true) in
    let tried =
    subst (λ ws. Tries ws rules front c.tries.number after (Ok None)) c.tries.invariant.table
    (subst (λ found. Tries c.tries.table rules front c.tries.number after (Ok found)) c.in-None.is c.in_ok-name.ensures.answer) in
    record {
      table = tried.0;
      number = ap (λ (n : ℕ). free_number k words rules front n) c.in_ok-number-in-None.ensures.next ∙ sym (number_taken words rules front tries k c.tries.number one tried.1) ∙ c.tries.invariant.number;
    }
