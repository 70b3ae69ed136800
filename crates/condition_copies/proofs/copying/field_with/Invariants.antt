use Rattle.std.proofs.Common.{◌≡◌, map, take}
use Rattle.soar_rule.specs.Renaming.{test_with}
use Rattle.condition_copies.proofs.copying.field_with.Given as goal

abbrev pub invariant-tests : goal.invariant-tests
invariant-tests g l = l.tests ≡ map (test_with (g.R.Replaces.replaced l.atoms)) (take l.test-index l.field.tests)
