use Rattle.std.proofs.Common.{◌≡◌, drop}
use Rattle.std.specs.Prelude.{slice_get}
use Rattle.defs_soar.specs.Explanation.{firing_of}
use Rattle.goal_dependence.specs.Remembered.{firings_of}
use Rattle.goal_dependence.proofs.wave_record.in_wave.Given as goal

abbrev pub invariant-wave : goal.invariant-wave
invariant-wave l = slice_get (firing_of (firings_of (drop l.recorded-index l.wave)) l.number) 0 ≡ slice_get (firing_of (firings_of l.wave) l.number) 0
