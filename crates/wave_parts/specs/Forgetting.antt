-- The parts with another record of firings.
use Rattle.std.specs.Prelude.{List}
use Rattle.defs_soar.specs.declared.firing.Firing.{Firing}
use Rattle.wave_parts.specs.declared.parts.Parts.{Parts as PartsKept}

-- all else is as it was
abbrev pub with_past : PartsKept → List Firing → PartsKept
with_past a past = record a { past = past }
