use Rattle.std.proofs.Common.{◌≡◌, drop}
use Rattle.body_marks.specs.Fingerprint.{after_each, after_field, after_test}
use Rattle.body_marks.proofs.conditions.after_field.Given as goal

abbrev pub invariant-tests : goal.invariant-tests
invariant-tests l = after_each after_test (drop l.test-index l.field.tests) l.last ≡ after_field l.field l.mark
