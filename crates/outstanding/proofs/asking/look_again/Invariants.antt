use Rattle.std.proofs.Common.{◌≡◌, false, length}
use Rattle.defs_match.specs.Conflict.{conflict}
use Rattle.open_instances.specs.Keeping.{AreLooked}
use Rattle.outstanding.proofs.asking.look_again.Given as goal

abbrev pub invariant-touched : goal.invariant-touched
invariant-touched g l = record {
  works : g.M.Matcher.failed l.matcher ≡ false;
  rules : g.M.Matcher.rules l.matcher ≡ g.M.Matcher.rules l.initial.matcher;
  elements : g.M.Matcher.elements l.matcher ≡ g.M.Matcher.elements l.initial.matcher;
  kept : AreLooked (conflict (g.M.Matcher.rules l.matcher) (g.M.Matcher.elements l.matcher)) l.kept;
  counts : l.kept.counts ≡ l.initial.kept.counts;
}

abbrev pub decreases-touched : goal.decreases-touched
decreases-touched g l = length l.kept.touched.keys
