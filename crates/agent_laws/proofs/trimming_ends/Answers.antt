-- That trimming ends is shown in lemmas.
use Rattle.agent_laws.proofs.TrimmedLaws.{resettling_ends, trimming_ends}
use Rattle.agent_laws.proofs.trimming_ends.Goals as goal

pub returns-clause-trimmed : goal.returns-clause-trimmed
returns-clause-trimmed c = trimming_ends

pub returns-clause-resettled : goal.returns-clause-resettled
returns-clause-resettled c = resettling_ends
