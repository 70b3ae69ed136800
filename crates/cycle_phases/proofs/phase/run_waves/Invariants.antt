use Rattle.std.proofs.Common.{◌≡◌}
use Rattle.defs_soar.specs.Agents.{Agent}
use Rattle.cycle_parts.specs.Bonds.{Bond}
use Rattle.cycle_parts.specs.Waving.{is_proposing}
use Rattle.cycle_phases.specs.Going.{Going}
use Rattle.cycle_parts.specs.Lawful.{IsOfLawful}
use Rattle.cycle_parts.specs.Seen.{IsSound}
use Rattle.cycle_parts.specs.Stands.{Stands}
use Rattle.cycle_phases.proofs.phase.run_waves.Given as goal

abbrev pub invariant-waves : goal.invariant-waves
invariant-waves g l = record {
  sound : IsSound l.engine.parts;
  lawful : IsOfLawful l.engine.parts;
  bond : Bond (g.M.Matcher.rules l.engine.matcher) (g.M.Matcher.elements l.engine.matcher) (g.M.Matcher.failed l.engine.matcher) (g.M.Outstanding.knows l.engine.matcher) l.engine.parts;
  settings : l.engine.parts.settings ≡ l.initial.engine.parts.settings;
  going : (s : Agent) → Stands l.initial.engine.parts s → Going l.initial.engine.parts.settings.watch (is_proposing l.phase) l.engine.parts l.left s l.initial.mid_line l.mid_line l.initial.out l.out;
}

abbrev pub decreases-waves : goal.decreases-waves
decreases-waves g l = l.left
