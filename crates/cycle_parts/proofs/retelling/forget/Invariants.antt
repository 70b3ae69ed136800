use Rattle.std.proofs.Common.{◌≡◌, List, false, drop}
use Rattle.live_firings.specs.declared.live.Live.{Live}
use Rattle.cycle_parts.specs.Retelling.{AreHeld, without_each_rule}
use Rattle.cycle_parts.proofs.retelling.forget.Given as goal

abbrev pub invariant-numbers : goal.invariant-numbers
invariant-numbers g l = record {
  works : g.M.Matcher.failed l.matcher ≡ false;
  elements : g.M.Matcher.elements l.matcher ≡ g.M.Matcher.elements l.initial.matcher;
  held : AreHeld (g.M.Matcher.rules l.matcher) (drop l.number-index l.numbers);
  left : without_each_rule (g.M.Matcher.rules l.matcher) (drop l.number-index l.numbers) ≡ without_each_rule (g.M.Matcher.rules l.initial.matcher) l.numbers;
  knows : (live : List Live) → g.M.Outstanding.knows l.initial.matcher live → g.M.Outstanding.knows l.matcher live;
}
