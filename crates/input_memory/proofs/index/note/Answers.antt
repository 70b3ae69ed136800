use Rattle.std.proofs.Common.{Some}
use Rattle.input_memory.proofs.IndexLemmas.{wrote}
use Rattle.input_memory.proofs.index.note.Goals as goal

pub returns-clause-ok : goal.returns-clause-ok
returns-clause-ok c = wrote c.args.triple c.args.number (Some tt) c.args.index.now (record { places = c.insert.new.self }) c.place_of.result c.place_of.ensures.place c.in_ok-insert.ensures.updates.0
