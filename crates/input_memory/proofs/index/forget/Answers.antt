use Rattle.std.proofs.Common.{None}
use Rattle.input_memory.proofs.IndexLemmas.{wrote}
use Rattle.input_memory.proofs.index.forget.Goals as goal

pub returns : goal.returns
returns c = wrote c.args.triple c.args.number None c.args.index.now (record { places = c.remove.new.self }) c.place_of.result c.place_of.ensures.place c.remove.ensures.updates.0
