use Rattle.row_laws.proofs.KeptLemmas.{added_keep_range, dropped_keep_range, joined_keep_range, retracted_keep_range, settled_keep_range, wave_keeps_range}
use Rattle.row_laws.proofs.KnownLemmas.{known_rows_are_known}
use Rattle.row_laws.proofs.MadeLemmas.{made_are_in_range, rows_made_are_in_range, rows_of_wishes_are_in_range}
use Rattle.row_laws.proofs.rows_fit_decisions.Goals as goal

pub returns-clause-wishes : goal.returns-clause-wishes
returns-clause-wishes c = made_are_in_range

pub returns-clause-rows : goal.returns-clause-rows
returns-clause-rows c = rows_of_wishes_are_in_range

pub returns-clause-made : goal.returns-clause-made
returns-clause-made c = rows_made_are_in_range

pub returns-clause-joined : goal.returns-clause-joined
returns-clause-joined c = joined_keep_range

pub returns-clause-added : goal.returns-clause-added
returns-clause-added c = added_keep_range

pub returns-clause-retracted : goal.returns-clause-retracted
returns-clause-retracted c = retracted_keep_range

pub returns-clause-dropped : goal.returns-clause-dropped
returns-clause-dropped c = dropped_keep_range

pub returns-clause-settled : goal.returns-clause-settled
returns-clause-settled c = settled_keep_range

pub returns-clause-wave : goal.returns-clause-wave
returns-clause-wave c = wave_keeps_range

pub returns-clause-known : goal.returns-clause-known
returns-clause-known c = known_rows_are_known
