use Rattle.std.proofs.Common.{◌∙◌}
use Rattle.dependency_tables.proofs.FindingLemmas.{found}
use Rattle.dependency_tables.proofs.finding.has.Goals as goal

pub returns : goal.returns
returns c = c.contains.ensures ∙ found c.args.tag c.args.table.now.keys
