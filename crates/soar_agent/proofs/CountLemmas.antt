-- The counts of an agent's parts are those of the agent.
use Rattle.std.proofs.Common.{◌≡◌, List, length, map, ap, ◌∙◌, sym}
use Rattle.std.proofs.lemmas.List.{length-map}
use Rattle.defs_match.specs.Rules.{rule_seen}
use Rattle.defs_soar.specs.History.{RecordedFiring}
use Rattle.defs_run.specs.Listing as listing
use Rattle.live_firings.specs.Living.{live_seen}
use Rattle.list_parts.specs.Counted.{stats_line}
use Rattle.list_parts.specs.declared.stats.Stats.{Stats}
use Rattle.soar_cycle.specs.Counting.{counts_in}
use Rattle.soar_cycle.specs.Seen.{agent_of}
use Rattle.soar_cycle.specs.Parts.{Parts as PartsKept}
use Rattle.soar_agent.specs.Counting.{stats_seen}

pub line_of_counts : (p : PartsKept) (history : List RecordedFiring) → stats_line (stats_seen (counts_in p)) ≡ listing.stats_line (agent_of p history)
line_of_counts p history =
    let s : Stats = stats_seen (counts_in p) in
    ap (λ n. stats_line (record s { productions = n })) (sym (length-map p.rules rule_seen))
    ∙ ap (λ n. stats_line (record s { productions = length (map rule_seen p.rules); live = n })) (sym (length-map p.live.list live_seen))
