-- Counts as they are listed.
use Rattle.list_parts.specs.declared.stats.Stats.{Stats}
use Rattle.soar_cycle.specs.declared.counts.Counts.{Counts}

abbrev pub stats_seen : Counts → Stats
stats_seen c = record {
  cycles = c.cycles;
  waves = c.waves;
  firings = c.firings;
  retractions = c.retractions;
  productions = c.productions;
  elements = c.elements;
  preferences = c.preferences;
  live = c.live;
  chunks = c.chunks;
}
