use Rattle.std.proofs.Common.{map}
use Rattle.defs_match.specs.Rules.{rule_seen}
use Rattle.defs_soar.specs.Pending.{firable_of}
use Rattle.firing_records.specs.Recorded.{standing}
use Rattle.wave_entries.specs.Entries.{entry_seen}
use Rattle.wave_firings.specs.Held.{against}
use Rattle.wave_firings.proofs.EntriesKnown.{entries_more}
use Rattle.wave_firings.proofs.turns.fire_rule.Goals as goal

pub returns-in-Ok-clause-entries : goal.returns-in-Ok-clause-entries
returns-in-Ok-clause-entries c =
    let f = firable_of c.args.scene.now.before.now.memory.now.elements (rule_seen c.args.rule.now) c.args.instance.now in
    let made = c.in_ok-made.made in
    entries_more c.args.table.now c.made_by.new.table (map entry_seen c.args.fired.now.entries) (map entry_seen c.gather.new.gathered.entries) (against (standing c.args.scene.now.before.now)) f c.args.number
    c.in_ok-goals.goals made.wishes made.dropped made.texts c.requires.entries (record { grown = c.made_by.ensures.words }) c.requires.known.rule_known.0 c.in_ok-made.ensures.known c.in-Ok.ensures.entries
