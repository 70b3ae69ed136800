use Rattle.std.proofs.Common.{sym}
use Rattle.defs_soar.specs.History.{firing_seen}
use Rattle.wave_learning.proofs.FoundLemmas.{told_first}
use Rattle.wave_learning.proofs.firings.firing_numbered.Goals as goal

pub returns-in-Some : goal.returns-in-Some
returns-in-Some c = sym (told_first c.args.number c.args.place c.args.entries.now (firing_seen c.in-Some.firing.now) c.requires (sym c.in-Some.ensures))
