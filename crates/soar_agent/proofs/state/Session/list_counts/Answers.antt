use Rattle.std.proofs.Common.{◌≡◌, ◌∙◌, ◌∷◌, [], List, ℕ, ap}
use Rattle.defs_run.specs.Listing as listing
use Rattle.list_parts.specs.Counted.{stats_line}
use Rattle.list_parts.specs.declared.stats.Stats.{Stats}
use Rattle.soar_cycle.specs.Counting.{counts_in}
use Rattle.soar_agent.specs.Counting.{stats_seen}
use Rattle.soar_cycle.specs.Seen.{agent_of}
use Rattle.soar_cycle.specs.Parts.{Parts}
use Rattle.soar_agent.proofs.CountLemmas.{line_of_counts}
use Rattle.soar_agent.proofs.ReplyLemmas.{says_lines}
use Rattle.soar_agent.proofs.state.Session.list_counts.Goals as goal

pub returns-clause-reply : goal.returns-clause-reply
returns-clause-reply g c = λ history remembers.
    let a : Parts = c.args.self.now.agent.parts in
    let are : c.stats_of-stats.result ≡ stats_seen (counts_in a) = c.stats_of-stats.ensures ∙ ap stats_seen c.counts.ensures in
    let same : stats_line c.stats_of-stats.result ∷ [] ≡ listing.stats_line (agent_of a history) ∷ [] = ap (λ (s : Stats). stats_line s ∷ []) are ∙ ap (λ (t : List ℕ). t ∷ []) (line_of_counts a history) in
    says_lines c.args.self.now c.set_mid_line.new.self (stats_line c.stats_of-stats.result ∷ []) (listing.stats_line (agent_of a history) ∷ []) c.mid_line-mid_line.result c.say_stats.new.mid_line
    history c.args.out.now c.say_stats.new.out remembers c.requires c.set_mid_line.ensures same c.mid_line-mid_line.ensures c.in_ok-say_stats.ensures.ok
