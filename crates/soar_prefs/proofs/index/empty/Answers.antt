use Rattle.soar_prefs.proofs.MarkLemmas.{nothing}
use Rattle.soar_prefs.proofs.index.empty.Goals as goal

pub returns : goal.returns
returns c = nothing (record { firings = c.new.result; ids = c.new-2.result; slots = c.new-3.result; triples = c.new-4.result }) c.new.ensures.empty c.new-2.ensures.empty c.new-3.ensures.empty c.new-4.ensures.empty
