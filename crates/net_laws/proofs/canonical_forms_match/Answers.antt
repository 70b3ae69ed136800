use Rattle.net_laws.proofs.FormLaws.{canonical_forms_match}
use Rattle.net_laws.proofs.FrontLaws.{fronts_are_numbered}
use Rattle.net_laws.proofs.canonical_forms_match.Goals as goal

pub returns-clause-instances : goal.returns-clause-instances
returns-clause-instances c = canonical_forms_match

pub returns-clause-fronts : goal.returns-clause-fronts
returns-clause-fronts c = fronts_are_numbered
