use Rattle.std.proofs.Common.{◌≡◌, true, take, drop}
use Rattle.std.specs.List.{list_all}
use Rattle.soar_read.specs.Joining.{is_own_name}
use Rattle.soar_read.proofs.JoinLemmas.{Joined}
use Rattle.soar_read.proofs.joining.join_all.Given as goal

abbrev pub invariant-names : goal.invariant-names
invariant-names l = record {
  own : list_all (is_own_name l.initial.table) (drop l.name-index l.names) ≡ true;
  joined : Joined l.initial.table l.table (take l.name-index l.names) l.symbols;
}
