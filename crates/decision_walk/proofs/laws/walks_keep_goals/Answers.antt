use Rattle.decision_walk.proofs.FirstLemmas.{walk_keeps_first}
use Rattle.decision_walk.proofs.KnownLemmas.{walk_stays_known}
use Rattle.decision_walk.proofs.MakerLemmas.{walk_keeps_makers}
use Rattle.decision_walk.proofs.laws.walks_keep_goals.Goals as goal

pub returns-clause-first : goal.returns-clause-first
returns-clause-first c = walk_keeps_first

pub returns-clause-known : goal.returns-clause-known
returns-clause-known c = walk_stays_known

pub returns-clause-makers : goal.returns-clause-makers
returns-clause-makers c = walk_keeps_makers
