-- That explanations stay is shown in lemmas.
use Rattle.explanation_laws.proofs.PrintedLines.{explained_from_the_start, explanations_stay, later_has_it, later_prints, lines_stay, printed_lines_stay}
use Rattle.explanation_laws.proofs.explanations_stay.Goals as goal

pub returns-clause-lines : goal.returns-clause-lines
returns-clause-lines c = lines_stay

pub returns-clause-kept : goal.returns-clause-kept
returns-clause-kept c = later_has_it

pub returns-clause-later : goal.returns-clause-later
returns-clause-later c = later_prints

pub returns-clause-explained : goal.returns-clause-explained
returns-clause-explained c = explanations_stay

pub returns-clause-always : goal.returns-clause-always
returns-clause-always c = explained_from_the_start

pub returns-clause-printed : goal.returns-clause-printed
returns-clause-printed c = printed_lines_stay
