use Rattle.std.proofs.Common.{drop}
use Rattle.kept_triples.specs.Looking.{Balances, is_held_now}
use Rattle.kept_triples.proofs.LookLemmas.{IsLooked}
use Rattle.kept_triples.proofs.looking.look_at_all.Given as goal

abbrev pub invariant-changed : goal.invariant-changed
invariant-changed l = record {
  members : IsLooked (is_held_now l.own.triples l.goals l.prefs.rows l.inputs) l.initial.held l.changed l.held (drop l.triple-index l.changed);
  counts : Balances l.initial.held l.initial.difference l.held l.difference;
}
