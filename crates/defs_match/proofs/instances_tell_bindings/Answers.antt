use Rattle.defs_match.proofs.BindingLemmas as laws
use Rattle.defs_match.proofs.instances_tell_bindings.Goals as goal

pub returns : goal.returns
returns c = laws.tells_bindings
