use Rattle.std.proofs.Common.{◌≡◌, map, None, take}
use Rattle.std.specs.Option.{option_copied}
use Rattle.soar_rule.specs.Renumbering.{renumbered_by}
use Rattle.soar_rule.specs.Renaming.{test_with}
use Rattle.soar_rule.proofs.renumbering.renumber_field.Given as goal

abbrev pub invariant-tests : goal.invariant-tests
invariant-tests l = record {
  renumbered : l.tests ≡ map (test_with (renumbered_by (option_copied l.numbering))) (take l.test-index l.field.tests);
  kept : l.numbering ≡ None → l.tests ≡ take l.test-index l.field.tests;
}
