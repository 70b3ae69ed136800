use Rattle.std.proofs.Common.{◌≡◌, take}
use Rattle.read_parts.proofs.fields.copy_field.Given as goal

abbrev pub invariant-tests : goal.invariant-tests
invariant-tests l = l.tests ≡ take l.test-index l.field.tests
