use Rattle.std.proofs.Common.{◌∙◌, sym, ap, subst, map}
use Rattle.soar_prefs.specs.Memory.{CoversRows, PreferenceMemory}
use Rattle.soar_prefs.specs.Store.{plain, row_of}
use Rattle.soar_prefs.proofs.JournalLemmas.{changes_cover}
use Rattle.soar_prefs.proofs.prefs.Prefs.take_changes.Goals as goal

pub returns-clause-covers : goal.returns-clause-covers
returns-clause-covers c =
    subst (λ triples. CoversRows triples c.args.self.now.settled c.args.self.now.rows) (sym (c.in_ok-triples.ensures ∙ ap (map (λ event. plain (row_of event))) c.as_slice.ensures.value))
    (subst (λ (p : PreferenceMemory). CoversRows (map (λ event. plain (row_of event)) c.self.inside.store.journal.items) p.settled p.rows) c.self.view_is
    (changes_cover c.self.inside.store.journal.items c.self.inside.store.rows.entries))
