use Rattle.std.proofs.Common.{◌∙◌, ap, arith}
use Rattle.live_firings.specs.Store.{told_rows}
use Rattle.live_firings.proofs.ToldLemmas.{told_all}
use Rattle.live_firings.proofs.reading.settle.Goals as goal

pub returns-clause-sound : goal.returns-clause-sound
returns-clause-sound c =
    let was = c.requires.sound in
    record { numbered = was.numbered; small = was.small; marked = omega arith; numbers = was.numbers; depths = was.depths; matches = was.matches }

pub returns-clause-told : goal.returns-clause-told
returns-clause-told c =
    let old = c.args.store.now in
    ap (λ gone. told_rows old.next gone old.rows.entries) c.clear.ensures.items ∙ told_all old.next old.rows.entries c.requires.sound.numbered
