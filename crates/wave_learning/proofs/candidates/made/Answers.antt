use Rattle.defs_soar.specs.History.{chain_seen}
use Rattle.defs_soar.specs.LearnedRules.{names_joining}
use Rattle.wave_learning.proofs.NamedLemmas.{chain_known}
use Rattle.wave_learning.proofs.WordLemmas.{all_within, some_over}
use Rattle.wave_learning.proofs.candidates.made.Goals as goal

pub candidate-requires : goal.candidate-requires
candidate-requires c = chain_known c.args.table.now (chain_seen c.args.chain.now) c.requires.parts c.requires.names

pub returns-in-Ok-clause-answer : goal.returns-in-Ok-clause-answer
returns-in-Ok-clause-answer c =
    let words = c.args.table.now in
    let names = names_joining words (chain_seen c.args.chain.now) c.args.depth in
    (c.in-Ok.ensures.candidate, c.in-Ok.ensures.words, all_within names words c.in-Ok.ensures.fits)

pub returns-in-Err-WordsSpent-clause-answer : goal.returns-in-Err-WordsSpent-clause-answer
returns-in-Err-WordsSpent-clause-answer c =
    let words = c.args.table.now in
    let names = names_joining words (chain_seen c.args.chain.now) c.args.depth in
    some_over names words c.law.ensures.table.few (c.in-Err-WordsSpent.ensures.spent c.in-Err-WordsSpent.field-0-is)
