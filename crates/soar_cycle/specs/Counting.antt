-- How much an agent did and holds.
use Rattle.std.specs.Prelude.{ℕ, List, Some, None, map, filter, length}
use Rattle.soar_wm.specs.WorkingMemory.{element_of}
use Rattle.soar_wm.specs.declared.element.Element.{Element}
use Rattle.defs_match.specs.Rules.{RuleOf, rule_seen}
use Rattle.defs_run.specs.Listing.{is_chunk}
use Rattle.cycle_phases.specs.Parts.{Parts as PartsKept}
use Rattle.soar_cycle.specs.declared.counts.Counts.{Counts}

-- how many elements have a tag
abbrev pub count_at : ℕ → List Element → ℕ
count_at tag elements = elim (element_of tag elements) [ None ↦ 0 | Some e ↦ 1 ]

abbrev pub chunks_among : List RuleOf → List RuleOf
chunks_among rules = filter (λ rule. is_chunk rule.production.kind) rules

abbrev pub counts_in : PartsKept → Counts
counts_in p = record {
  cycles = p.cycles;
  waves = p.waves;
  firings = p.firings;
  retractions = p.retractions;
  productions = length p.rules;
  elements = length p.memory.elements;
  preferences = length p.prefs.rows;
  live = length p.live.list;
  chunks = length (chunks_among (map rule_seen p.rules));
}
