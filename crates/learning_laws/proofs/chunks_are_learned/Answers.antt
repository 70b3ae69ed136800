use Rattle.learning_laws.proofs.JustifiedLaws.{justification_firings_are_lawful}
use Rattle.learning_laws.proofs.LearnedLaws.{chunk_firings_are_lawful}
use Rattle.learning_laws.proofs.LearningStepLaws.{chunks_are_learned}
use Rattle.learning_laws.proofs.NameLaws.{names_join}
use Rattle.learning_laws.proofs.chunks_are_learned.Goals as goal

pub returns-clause-learned : goal.returns-clause-learned
returns-clause-learned c = chunks_are_learned

pub returns-clause-chunks : goal.returns-clause-chunks
returns-clause-chunks c = chunk_firings_are_lawful

pub returns-clause-justifications : goal.returns-clause-justifications
returns-clause-justifications c = justification_firings_are_lawful

pub returns-clause-names : goal.returns-clause-names
returns-clause-names c = names_join
