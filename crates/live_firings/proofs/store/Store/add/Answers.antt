use Rattle.std.proofs.Common.{◌≡◌, ◌+◌, ◌<◌, ◌^◌, ◌∙◌, ◌∷◌, [], ◌++◌, true, false, refl, ap, subst, sym, arith}
use Rattle.std.specs.Map.{values_of}
use Rattle.live_firings.specs.declared.live.Live.{Live}
use Rattle.live_firings.specs.Store.{Marked, match_of, told_rows}
use Rattle.live_firings.proofs.PlaceLemmas.{all_remarked}
use Rattle.live_firings.proofs.StoreLemmas.{stored, kept, values_push}
use Rattle.live_firings.proofs.ToldLemmas.{told_add}
use Rattle.live_firings.proofs.store.Store.add.Goals as goal

pub returns-in_err-firing-clause-sound : goal.returns-in_err-firing-clause-sound
returns-in_err-firing-clause-sound c = kept _ _ _ _ _ _ c.args.firing c.requires.sound refl c.in_err-firing.ensures.err

pub returns-in-Ok-clause-sound : goal.returns-in-Ok-clause-sound
returns-in-Ok-clause-sound c =
    let old = c.args.self.now in
    let next : c.in-Some.next ≡ old.next + 1 = omega arith in
    let small : c.in-Some.next < 2 ^ 64 = omega arith in
    stored _ _ _ _ _ c.in-Some.next _ c.in_ok-firing.firing c.requires.sound next small c.in-Ok.ensures.entries c.in-Ok.ensures.updates
    (subst (λ (l : Live). Marked l.number l.depth (match_of l) old.next true old.index c.note.new.self) (sym c.in_ok-firing.ensures.same) c.in_ok-firing.ensures.ok)

pub returns-in-Ok-clause-told : goal.returns-in-Ok-clause-told
returns-in-Ok-clause-told c =
    let old = c.args.self.now in
    told_add old.mark old.next c.make_room.new.gone.items _ _ c.in_ok-firing.firing c.requires.sound.numbered c.requires.sound.marked c.in-Ok.ensures.entries ∙ ap (λ gone. told_rows old.mark gone old.rows.entries) c.make_room.ensures.items

pub returns-in-Ok-clause-ok : goal.returns-in-Ok-clause-ok
returns-in-Ok-clause-ok c =
    values_push c.args.self.now.next _ _ c.in_ok-firing.firing c.requires.sound.numbered c.in-Ok.ensures.entries ∙ ap (λ l. values_of c.args.self.now.rows.entries ++ l ∷ []) c.in_ok-firing.ensures.same

pub returns-in-Err-clause-sound : goal.returns-in-Err-clause-sound
returns-in-Err-clause-sound c =
    let old = c.args.self.now in
    let firing : Live = c.args.firing in
    let back : c.in-Err.firing ≡ firing = c.in-Err.ensures.back ∙ c.in_ok-firing.ensures.same in
    kept _ _ _ _ _ _ firing c.requires.sound c.in-Err.ensures.err
    (all_remarked firing.number firing.depth (match_of firing) old.next old.index c.note.new.self c.forget.new.self c.in_ok-firing.ensures.ok
    (subst (λ (l : Live). Marked l.number l.depth (match_of l) old.next false c.note.new.self c.forget.new.self) back c.forget.ensures.marks))
