use Rattle.learning_laws.proofs.CheckedReady.{checked_negations_ready}
use Rattle.learning_laws.proofs.ExplainLaws.{explanations_are_lawful}
use Rattle.learning_laws.proofs.FiringLaws.{firings_are_lawful}
use Rattle.learning_laws.proofs.ExplainedLaws.{explained_are_lawful}
use Rattle.learning_laws.proofs.MadeLaws.{made_can_be_made}
use Rattle.learning_laws.proofs.RuleLaws.{firings_stand, justifications_stand}
use Rattle.learning_laws.proofs.UseLaws.{uses_are_lawful}
use Rattle.learning_laws.proofs.explanations_are_lawful.Goals as goal

pub returns-clause-explanations : goal.returns-clause-explanations
returns-clause-explanations c = explanations_are_lawful

pub returns-clause-firings : goal.returns-clause-firings
returns-clause-firings c = firings_are_lawful

pub returns-clause-uses : goal.returns-clause-uses
returns-clause-uses c = uses_are_lawful

pub returns-clause-checked : goal.returns-clause-checked
returns-clause-checked c = checked_negations_ready

pub returns-clause-explained_firings : goal.returns-clause-explained_firings
returns-clause-explained_firings c = explained_are_lawful

pub returns-clause-justified : goal.returns-clause-justified
returns-clause-justified c = justifications_stand

pub returns-clause-stand : goal.returns-clause-stand
returns-clause-stand c = firings_stand

pub returns-clause-made : goal.returns-clause-made
returns-clause-made c = made_can_be_made
