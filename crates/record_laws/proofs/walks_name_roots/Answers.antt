-- What a walk leaves is shown in lemmas.
use Rattle.record_laws.proofs.WalkingLaws.{walks_name_roots}
use Rattle.record_laws.proofs.walks_name_roots.Goals as goal

pub returns : goal.returns
returns c = record { selections = walks_name_roots }
