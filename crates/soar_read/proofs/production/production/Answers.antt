use Rattle.std.proofs.Common.{sym, subst}
use Rattle.defs_read.specs.Expansion.{ProductionRead}
use Rattle.soar_read.specs.Meaning.{IsMeant}
use Rattle.read_parts.specs.Words.{texts_of}
use Rattle.soar_read.proofs.MeaningLemmas.{meaning_by_names}
use Rattle.read_parts.proofs.TextLemmas.{room_of}
use Rattle.soar_read.proofs.production.production.Goals as goal

pub joined-requires-clause-room : goal.joined-requires-clause-room
joined-requires-clause-room c = room_of c.args.table.now c.law.ensures

pub returns-clause-meant : goal.returns-clause-meant
returns-clause-meant c =
    let Q : ProductionRead → Type 0 = λ meant. IsMeant c.args.table.now c.joined.new.table meant c.joined.result in
    subst Q (sym (meaning_by_names c.args.table.now (texts_of c.args.table.now c.in_ok-uses.uses.used) c.args.tokens.now c.args.tree.now c.in_ok-uses.ensures.used)) c.joined.ensures.meant
