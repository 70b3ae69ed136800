use Rattle.std.proofs.Common.{◌≡◌, ◌+◌, arith}
use Rattle.input_memory.proofs.StoreLemmas.{stored, unchanged, kept, put_back, values_push}
use Rattle.input_memory.proofs.store.Store.add.Goals as goal

pub returns-in_err-note-clause-sound : goal.returns-in_err-note-clause-sound
returns-in_err-note-clause-sound c = unchanged _ _ _ _ c.requires c.in_err-note.ensures.err

pub returns-in-Ok-clause-sound : goal.returns-in-Ok-clause-sound
returns-in-Ok-clause-sound c =
    let next : c.in-Some.next ≡ c.args.self.now.next + 1 = omega arith in
    stored _ _ _ _ _ c.in-Some.next c.args.triple c.requires c.note.ensures.told next c.in-Ok.ensures.entries c.in-Ok.ensures.updates.0 c.in_ok-note.ensures.ok

pub returns-in-Ok-clause-ok : goal.returns-in-Ok-clause-ok
returns-in-Ok-clause-ok c = values_push c.args.self.now.next _ _ c.args.triple c.requires.numbered c.in-Ok.ensures.entries

pub returns-in-Err-clause-sound : goal.returns-in-Err-clause-sound
returns-in-Err-clause-sound c = kept _ _ _ _ _ c.args.triple c.requires c.in-Err.ensures.err (put_back c.args.triple _ c.args.self.now.numbers c.note.new.index c.forget.new.index c.in_ok-note.ensures.ok c.forget.ensures)
