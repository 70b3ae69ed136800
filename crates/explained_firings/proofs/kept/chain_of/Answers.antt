use Rattle.defs_soar.specs.History.{firing_seen}
use Rattle.soar_record.specs.Recorded.{recorded as kept_in}
use Rattle.soar_record.proofs.RecordLemmas.{all_found}
use Rattle.explained_firings.proofs.kept.chain_of.Goals as goal

pub backtrace-requires-clause-once : goal.backtrace-requires-clause-once
backtrace-requires-clause-once c = all_found (kept_in c.args.past.now) (firing_seen c.args.firing.now) c.requires.new (kept_in c.args.past.now) c.numbers_stand_once.ensures
