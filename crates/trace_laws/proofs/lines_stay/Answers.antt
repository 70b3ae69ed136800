use Rattle.trace_laws.proofs.TableLemmas.{known_stays, later_in_turn, symbols_keep, tables_grow}
use Rattle.trace_laws.proofs.EventLemmas.{events_keep, events_stay_known, pieces_in_turn, pieces_keep}
use Rattle.trace_laws.proofs.LevelLemmas.{low_events_alone, low_events_keep, low_levels_alone, written_in_turn}
use Rattle.trace_laws.proofs.lines_stay.Goals as goal

pub returns-clause-grown : goal.returns-clause-grown
returns-clause-grown c = tables_grow

pub returns-clause-in_turn : goal.returns-clause-in_turn
returns-clause-in_turn c = later_in_turn

pub returns-clause-known : goal.returns-clause-known
returns-clause-known c = known_stays

pub returns-clause-symbols : goal.returns-clause-symbols
returns-clause-symbols c = symbols_keep

pub returns-clause-events_known : goal.returns-clause-events_known
returns-clause-events_known c = events_stay_known

pub returns-clause-events : goal.returns-clause-events
returns-clause-events c = events_keep

pub returns-clause-pieces : goal.returns-clause-pieces
returns-clause-pieces c = pieces_keep

pub returns-clause-pieces_in_turn : goal.returns-clause-pieces_in_turn
returns-clause-pieces_in_turn c = pieces_in_turn

pub returns-clause-written_in_turn : goal.returns-clause-written_in_turn
returns-clause-written_in_turn c = written_in_turn

pub returns-clause-alone : goal.returns-clause-alone
returns-clause-alone c = low_levels_alone

pub returns-clause-filtered : goal.returns-clause-filtered
returns-clause-filtered c = low_events_alone

pub returns-clause-told : goal.returns-clause-told
returns-clause-told c = low_events_keep
