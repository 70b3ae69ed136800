use Rattle.std.proofs.Common.{◌≡◌, List, false, length}
use Rattle.live_firings.specs.declared.live.Live.{Live}
use Rattle.matching_laws.specs.Telling.{AreRemovable}
use Rattle.soar_settle.specs.Tagging.{without_each}
use Rattle.cycle_parts.proofs.telling.let_go.Given as goal

abbrev pub invariant-gone : goal.invariant-gone
invariant-gone g l =
    (g.M.Matcher.failed l.matcher ≡ false)
    × (g.M.Matcher.rules l.matcher ≡ g.M.Matcher.rules l.initial.matcher)
    × AreRemovable (g.M.Matcher.elements l.matcher) l.rest
    × (without_each (g.M.Matcher.elements l.matcher) l.rest ≡ without_each (g.M.Matcher.elements l.initial.matcher) l.gone)
    × ((live : List Live) → g.M.Outstanding.knows l.initial.matcher live → g.M.Outstanding.knows l.matcher live)

abbrev pub decreases-gone : goal.decreases-gone
decreases-gone g l = length l.rest
