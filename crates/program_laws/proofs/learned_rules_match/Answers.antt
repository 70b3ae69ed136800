-- That learned rules can be matched is shown in lemmas.
use Rattle.program_laws.proofs.MatchingLaws.{learned_can_be_matched}
use Rattle.program_laws.proofs.learned_rules_match.Goals as goal

pub returns : goal.returns
returns c = record { matched = learned_can_be_matched }
