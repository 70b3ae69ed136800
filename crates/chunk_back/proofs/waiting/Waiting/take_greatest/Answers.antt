use Rattle.chunk_back.proofs.WaitingLemmas.{taken_is_greatest}
use Rattle.chunk_back.proofs.waiting.Waiting.take_greatest.Goals as goal

pub returns-clause-greatest : goal.returns-clause-greatest
returns-clause-greatest c = taken_is_greatest c.pop_last.result c.pop_last.new.self.keys c.pop_last.ensures.all_below
