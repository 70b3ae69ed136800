use Rattle.std.proofs.Common.{◌≡◌, List, false, map, length}
use Rattle.defs_match.specs.Rules.{rule_seen}
use Rattle.live_firings.specs.declared.live.Live.{Live}
use Rattle.pending_work.specs.Firables.{AreNumbered}
use Rattle.cycle_parts.specs.Dropping.{unnamed}
use Rattle.cycle_parts.proofs.dropping.drop_rules.Given as goal

abbrev pub invariant-rules : goal.invariant-rules
invariant-rules g l = record {
  works : g.M.Matcher.failed l.matcher ≡ false;
  held : g.M.Matcher.rules l.matcher ≡ map rule_seen l.rules;
  elements : g.M.Matcher.elements l.matcher ≡ g.M.Matcher.elements l.initial.matcher;
  numbered : AreNumbered (map rule_seen l.rules);
  kept : unnamed l.name (map rule_seen l.rules) ≡ unnamed l.name (map rule_seen l.initial.rules);
  knows : (live : List Live) → g.M.Outstanding.knows l.initial.matcher live → g.M.Outstanding.knows l.matcher live;
}

abbrev pub decreases-rules : goal.decreases-rules
decreases-rules g l = length (map rule_seen l.rules)
