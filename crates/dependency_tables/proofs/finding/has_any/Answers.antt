use Rattle.std.proofs.Common.{◌∙◌}
use Rattle.dependency_tables.proofs.FindingLemmas.{any_turned}
use Rattle.dependency_tables.proofs.finding.has_any.Goals as goal

pub returns : goal.returns
returns c = c.is_any_among.ensures ∙ any_turned c.args.table.now.keys c.args.tags.now
