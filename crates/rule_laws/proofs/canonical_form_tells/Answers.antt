use Rattle.rule_laws.proofs.CanonicalLaws.{alike_are_one, one_is_alike}
use Rattle.rule_laws.proofs.canonical_form_tells.Goals as goal

pub returns-clause-alike : goal.returns-clause-alike
returns-clause-alike c = alike_are_one

pub returns-clause-one : goal.returns-clause-one
returns-clause-one c = one_is_alike
