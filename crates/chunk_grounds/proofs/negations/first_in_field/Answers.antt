use Rattle.std.proofs.Common.{◌≡◌, ◌<◌, ◌∙◌, List, Some, None, flat_map, length, get_or, refl, ap, subst}
use Rattle.soar_rule.specs.declared.cond.Test.{Test}
use Rattle.soar_rule.specs.Symbols.{constants_of_test}
use Rattle.chunk_grounds.proofs.FirstLemmas.{first_next}
use Rattle.chunk_grounds.proofs.negations.first_in_field.Goals as goal

pub returns-in-Some : goal.returns-in-Some
returns-in-Some c =
    let tests = c.args.field.now.tests in
    let within : c.tests.test-index < length tests = subst (λ (l : List Test). c.tests.test-index < length l) c.as_slice-test-items.ensures c.tests-test.true in
    let at : c.test-item.result ≡ get_or tests c.tests.test-index c.test-item.result = c.test-item.is ∙ ap (λ (l : List Test). get_or l c.tests.test-index c.test-item.result) c.as_slice-test-items.ensures in
    first_next c.args.places.now (flat_map constants_of_test) constants_of_test (λ test others. refl) tests c.tests.test-index c.test-item.result (Some c.in-Some.symbol) within at c.in-Some.ensures
    ∙ c.tests.invariant

pub tests-preserved : goal.tests-preserved
tests-preserved c =
    let tests = c.args.field.now.tests in
    let within : c.tests.test-index < length tests = subst (λ (l : List Test). c.tests.test-index < length l) c.as_slice-test-items.ensures c.tests-test.true in
    let at : c.test-item.result ≡ get_or tests c.tests.test-index c.test-item.result = c.test-item.is ∙ ap (λ (l : List Test). get_or l c.tests.test-index c.test-item.result) c.as_slice-test-items.ensures in
    first_next c.args.places.now (flat_map constants_of_test) constants_of_test (λ test others. refl) tests c.tests.test-index c.test-item.result None within at c.in_default.ensures
    ∙ c.tests.invariant
