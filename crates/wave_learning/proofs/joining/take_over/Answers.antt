use Rattle.std.proofs.Common.{◌∙◌, ◌++◌, ◌∷◌, [], Bool, List, ap, map}
use Rattle.defs_soar.specs.Events.{by_learned}
use Rattle.learned_firings.specs.Flags.{with_flags}
use Rattle.wave_entries.specs.Entries.{entry_seen}
use Rattle.wave_learning.proofs.joining.take_over.Goals as goal

pub returns-clause-entries : goal.returns-clause-entries
returns-clause-entries c =
    c.in_ok-add_entry.ensures
    ∙ ap (λ (flags : List Bool). map (with_flags c.args.explained.number flags by_learned) (map entry_seen c.args.going.now.hand.entries) ++ entry_seen c.args.joining.entry ∷ []) c.as_slice.ensures
