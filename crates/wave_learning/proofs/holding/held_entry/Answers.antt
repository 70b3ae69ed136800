use Rattle.std.proofs.Common.{◌∙◌, ◌++◌, ◌∷◌, [], List, ap, map, sym}
use Rattle.trace_details.specs.Details.{support_of}
use Rattle.learned_firings.specs.Flags.{with_flags}
use Rattle.wave_entries.specs.Entries.{entry_seen}
use Rattle.wave_entries.specs.declared.entry.Entry.{Entry}
use Rattle.wave_learning.proofs.HoldingLemmas.{only_one}
use Rattle.wave_learning.proofs.holding.held_entry.Goals as goal

pub returns-in-Some : goal.returns-in-Some
returns-in-Some c =
    let one = with_flags c.args.number c.args.flags.now (support_of c.args.by) in
    only_one c.pop.new.self c.in-Some.held (one (entry_seen c.args.entry))
    (ap (λ (l : List Entry). map entry_seen l) (sym c.in-Some.ensures) ∙ c.in_ok-held.ensures ∙ ap (λ (l : List Entry). map one (map entry_seen l)) c.in_ok-push.ensures.ok ∙ ap (λ (l : List Entry). map one (map entry_seen (l ++ c.args.entry ∷ []))) c.new-one.ensures)
