use Rattle.std.proofs.Common.{◌∙◌, ◌++◌, ◌∷◌, [], nat_lt, cond, ap}
use Rattle.std.specs.Option.{option_map}
use Rattle.live_firings.specs.declared.live.Live.{Live}
use Rattle.live_firings.proofs.StoreLemmas.{gone}
use Rattle.live_firings.proofs.ToldLemmas.{told_less}
use Rattle.live_firings.proofs.store.Store.take.Goals as goal

pub returns-in-Some-clause-sound : goal.returns-in-Some-clause-sound
returns-in-Some-clause-sound c = gone _ _ _ _ _ _ c.args.place c.in-Some.firing c.requires.sound c.in-Some.ensures.value c.in-Some.ensures.entries c.in-Some.ensures.updates c.forget-firing.ensures.marks

pub returns-in-Some-clause-told : goal.returns-in-Some-clause-told
returns-in-Some-clause-told c =
    let old = c.args.self.now in
    told_less old.next old.mark c.args.place c.in-Some.firing _ _ _ _ c.requires.sound.numbered c.in-Some.ensures.value c.in-Some.ensures.entries
    (c.note_gone.ensures.items ∙ ap (λ l. old.gone.items ++ cond (nat_lt c.args.place old.mark) ((c.args.place, l) ∷ []) []) c.forget-firing.ensures.same)

pub returns-in-Some-clause-number : goal.returns-in-Some-clause-number
returns-in-Some-clause-number c = ap (option_map (λ (x : Live). x.number)) c.in-Some.ensures.value
