-- That sessions keep agents lawful is shown in lemmas.
use Rattle.session_laws.proofs.StepLaws.{checked_may_be_loaded, halts_keep, identifiers_keep, settings_keep, words_keep}
use Rattle.session_laws.proofs.sessions_keep.Goals as goal

pub returns-clause-words : goal.returns-clause-words
returns-clause-words c = words_keep

pub returns-clause-identifiers : goal.returns-clause-identifiers
returns-clause-identifiers c = identifiers_keep

pub returns-clause-settings : goal.returns-clause-settings
returns-clause-settings c = settings_keep

pub returns-clause-halts : goal.returns-clause-halts
returns-clause-halts c = halts_keep

pub returns-clause-loadable : goal.returns-clause-loadable
returns-clause-loadable c = checked_may_be_loaded
