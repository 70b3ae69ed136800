use Rattle.std.proofs.Common.{◌∙◌, Some, refl, ap}
use Rattle.soar_prefs.proofs.JournalLemmas.{settled_drop}
use Rattle.soar_prefs.proofs.StoreLemmas.{gone}
use Rattle.soar_prefs.proofs.store.Store.take.Goals as goal

pub returns-in-Some-clause-sound : goal.returns-in-Some-clause-sound
returns-in-Some-clause-sound c = gone _ _ _ _ _ c.args.number c.preference-row.result c.requires.sound (ap Some c.preference-row.ensures ∙ c.in-Some.ensures.value) c.in-Some.ensures.entries c.in-Some.ensures.updates.0 c.forget.ensures

pub returns-in-Some-clause-settled : goal.returns-in-Some-clause-settled
returns-in-Some-clause-settled c = settled_drop _ _ _ _ c.args.self.now.next c.args.number c.preference-row.result _ c.requires.sound.numbered (ap Some c.preference-row.ensures ∙ c.in-Some.ensures.value) c.in-Some.ensures.entries c.append.ensures.items refl
