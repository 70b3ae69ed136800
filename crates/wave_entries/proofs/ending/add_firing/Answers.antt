use Rattle.std.proofs.Common.{ap, flat_map, ◌∙◌}
use Rattle.wave_entries.specs.Entries.{told_events}
use Rattle.wave_entries.proofs.LeftLemmas.{told_next}
use Rattle.wave_entries.proofs.ending.add_firing.Goals as goal

pub returns-clause-told : goal.returns-clause-told
returns-clause-told c = ap (flat_map told_events) c.in_ok-push-3.ensures.ok ∙ told_next c.args.made.now.told c.args.fresh
