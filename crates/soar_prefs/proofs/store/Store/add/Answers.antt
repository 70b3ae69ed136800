use Rattle.std.proofs.Common.{◌≡◌, ◌+◌, ◌<◌, ◌^◌, ◌∙◌, true, refl, sym, ap, subst, arith}
use Rattle.std.specs.BTreeMap.{insert_entry}
use Rattle.std.specs.Ordering.{nat_cmp}
use Rattle.soar_prefs.specs.Store.{Marks, undone}
use Rattle.soar_prefs.proofs.JournalLemmas.{settled_add}
use Rattle.soar_prefs.proofs.StoreLemmas.{stored, kept, put_back, values_push}
use Rattle.soar_prefs.proofs.store.Store.add.Goals as goal

pub returns-in_err-note-clause-sound : goal.returns-in_err-note-clause-sound
returns-in_err-note-clause-sound c = kept _ _ _ _ _ c.args.row c.requires.sound refl c.in_err-note.ensures.err

pub returns-in-Ok-clause-sound : goal.returns-in-Ok-clause-sound
returns-in-Ok-clause-sound c =
    let next : c.in-Some.next ≡ c.args.self.now.next + 1 = omega arith in
    let small : c.in-Some.next < 2 ^ 64 = omega arith in
    stored _ _ _ _ _ c.in-Some.next c.new.result c.requires.sound next small c.in-Ok.ensures.entries c.in-Ok.ensures.updates.0
    (subst (λ row. Marks row c.args.self.now.next true c.args.self.now.numbers c.note.new.index) (sym c.new.ensures) c.in_ok-note.ensures.ok)

pub returns-in-Ok-clause-ok : goal.returns-in-Ok-clause-ok
returns-in-Ok-clause-ok c = values_push c.args.self.now.next _ _ c.args.row c.requires.sound.numbered (c.in-Ok.ensures.entries ∙ ap (insert_entry nat_cmp c.args.self.now.rows.entries c.args.self.now.next) c.new.ensures)

pub returns-in-Err-clause-sound : goal.returns-in-Err-clause-sound
returns-in-Err-clause-sound c = kept _ _ _ _ _ c.args.row c.requires.sound c.in-Err.ensures.err (put_back c.args.row _ c.args.self.now.numbers c.note.new.index c.forget.new.index c.in_ok-note.ensures.ok c.forget.ensures)

pub returns-in-Ok-clause-settled : goal.returns-in-Ok-clause-settled
returns-in-Ok-clause-settled c =
    settled_add _ _ _ _ c.args.self.now.next c.args.row _ c.requires.sound.numbered (c.in-Ok.ensures.entries ∙ ap (insert_entry nat_cmp c.args.self.now.rows.entries c.args.self.now.next) c.new.ensures) c.append.ensures.items refl
    ∙ ap (λ j. undone j c.args.self.now.rows.entries) c.reserve.ensures.items
