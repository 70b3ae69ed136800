use Rattle.std.proofs.Common.{◌++◌, flat_map, map, sym, ap, refl, ◌∙◌, append_assoc, arith}
use Rattle.std.proofs.lemmas.Str.{encode_ascii}
use Rattle.soar_rule.specs.Symbols.{constants_of_test}
use Rattle.defs_read.specs.PrintingConditions.{spaced}
use Rattle.soar_show.specs.Lines.{placed_text}
use Rattle.soar_show.proofs.KnownLemmas.{knows_item, knows_later}
use Rattle.soar_show.proofs.ListLemmas.{drop_item}
use Rattle.soar_show.proofs.fields.push_tests.Goals as goal

pub push_placed-requires : goal.push_placed-requires
push_placed-requires c =
    knows_item constants_of_test (flat_map constants_of_test) (λ x xs. refl) _ c.args.tests.now c.tests.test-index c.test-item.result c.tests-test.true c.test-item.is c.tests.invariant.known

pub tests-preserved : goal.tests-preserved
tests-preserved c =
    let next = drop_item c.args.tests.now c.tests.test-index c.test-item.result c.tests-test.true c.test-item.is in
    record {
      known = knows_later constants_of_test (flat_map constants_of_test) (λ x xs. refl) _ c.args.tests.now c.tests.test-index c.test-item.result c.tests-test.true c.test-item.is c.tests.invariant.known;
      text =
          (rw (c.in_ok-push_placed.ensures, c.in_ok-push.ensures.ok)
          (simp (append_assoc, encode_ascii 32 (omega arith)) (sym (ap (λ tests. c.tests.out ++ spaced (map (placed_text c.args.place c.args.names.now) tests)) next))))
          ∙ c.tests.invariant.text;
    }
