-- How a part of the history is kept is shown in lemmas.
use Rattle.agent_laws.proofs.PartLaws.{fewer_roots_need_less, firings_join, parts_of_parts, rising_are_apart}
use Rattle.agent_laws.proofs.parts_are_kept.Goals as goal

pub returns-clause-fewer : goal.returns-clause-fewer
returns-clause-fewer c = fewer_roots_need_less

pub returns-clause-parts : goal.returns-clause-parts
returns-clause-parts c = parts_of_parts

pub returns-clause-join : goal.returns-clause-join
returns-clause-join c = firings_join

pub returns-clause-rising : goal.returns-clause-rising
returns-clause-rising c = rising_are_apart
