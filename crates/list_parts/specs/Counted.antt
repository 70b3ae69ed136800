-- Counts and sizes of an agent, and their line.
use Rattle.std.specs.Prelude.{ℕ, List, [], codes, length}
use Rattle.defs_run.specs.Listing.{chunks_of, counted}
use Rattle.defs_soar.specs.Agents.{Agent}
use Rattle.list_parts.specs.declared.stats.Stats.{Stats}

-- what an agent counted, and how much it has
abbrev pub stats_of : Agent → Stats
stats_of a = record {
  cycles = a.counts.cycles;
  waves = a.counts.waves;
  firings = a.counts.firings;
  retractions = a.counts.retractions;
  productions = length a.program.rules;
  elements = length a.holding.elements;
  preferences = length a.holding.rows;
  live = length a.holding.live;
  chunks = length (chunks_of a);
}

-- the line of `stats`: that of Listing is this of `stats_of` an agent, by computation
abbrev pub stats_line : Stats → List ℕ
stats_line s =
    counted (codes "cycles") s.cycles (counted (codes " waves") s.waves (counted (codes " firings") s.firings
    (counted (codes " retractions") s.retractions (counted (codes " productions") s.productions
    (counted (codes " elements") s.elements (counted (codes " preferences") s.preferences
    (counted (codes " live") s.live (counted (codes " chunks") s.chunks []))))))))
