use Rattle.std.proofs.Common.{◌≡◌, ◌++◌, [], drop, map, take}
use Rattle.defs_soar.specs.Variablized.{names_from}
use Rattle.chunk_variables.specs.Counts.{IsCounted}
use Rattle.chunk_variables.specs.Seen.{variablized_seen}
use Rattle.chunk_variables.proofs.naming.names_of.Given as goal

abbrev pub invariant-items : goal.invariant-items
invariant-items l = record {
  counted : IsCounted l.letters (map variablized_seen (take l.item-index l.items));
  named : l.names ++ names_from (map variablized_seen (take l.item-index l.items)) (map variablized_seen (drop l.item-index l.items)) ≡ names_from [] (map variablized_seen l.items);
}
