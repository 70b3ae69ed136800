use Rattle.std.proofs.Common.{sym}
use Rattle.input_memory.proofs.StoreLemmas.{some_there, none_there}
use Rattle.input_memory.proofs.store.Store.has_key.Goals as goal

pub returns-in-Some : goal.returns-in-Some
returns-in-Some c = sym (some_there _ _ _ c.args.key _ c.requires c.in-Some.ensures.some)

pub returns-in-None : goal.returns-in-None
returns-in-None c = sym (none_there _ _ _ c.args.key c.requires c.in-None.ensures.none)
