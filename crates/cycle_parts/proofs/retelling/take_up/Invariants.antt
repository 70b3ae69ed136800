use Rattle.std.proofs.Common.{◌≡◌, List, false, map}
use Rattle.std.specs.Map.{values_of}
use Rattle.defs_match.specs.Rules.{rule_seen}
use Rattle.live_firings.specs.declared.live.Live.{Live}
use Rattle.cycle_parts.specs.Retelling.{AreEachNew, with_each_above, with_each_rule}
use Rattle.cycle_parts.proofs.retelling.take_up.Given as goal

abbrev pub invariant-rules : goal.invariant-rules
invariant-rules g l = record {
  works : g.M.Matcher.failed l.matcher ≡ false;
  elements : g.M.Matcher.elements l.matcher ≡ g.M.Matcher.elements l.initial.matcher;
  new : AreEachNew (g.M.Matcher.rules l.matcher) (map rule_seen (values_of l.rule-iterator));
  whole : with_each_rule (g.M.Matcher.rules l.matcher) (map rule_seen (values_of l.rule-iterator)) ≡ with_each_above l.last (g.M.Matcher.rules l.initial.matcher) (map rule_seen l.rules);
  knows : (live : List Live) → g.M.Outstanding.knows l.initial.matcher live → g.M.Outstanding.knows l.matcher live;
}
