use Rattle.std.proofs.Common.{◌≡◌, List, false, drop}
use Rattle.live_firings.specs.declared.live.Live.{Live}
use Rattle.matching_laws.specs.Telling.{AreInsertable, with_each}
use Rattle.cycle_parts.proofs.taking.take_in.Given as goal

abbrev pub invariant-elements : goal.invariant-elements
invariant-elements g l = record {
  works : g.M.Matcher.failed l.matcher ≡ false;
  rules : g.M.Matcher.rules l.matcher ≡ g.M.Matcher.rules l.initial.matcher;
  insertable : AreInsertable (g.M.Matcher.elements l.matcher) (drop l.element-index l.elements);
  whole : with_each (g.M.Matcher.elements l.matcher) (drop l.element-index l.elements) ≡ with_each (g.M.Matcher.elements l.initial.matcher) l.elements;
  knows : (live : List Live) → g.M.Outstanding.knows l.initial.matcher live → g.M.Outstanding.knows l.matcher live;
}
