use Rattle.std.proofs.Common.{◌≡◌, take}
use Rattle.defs_soar.specs.Candidate.{words_of_names}
use Rattle.chunk_make.proofs.words.words_in.Given as goal

abbrev pub invariant-names : goal.invariant-names
invariant-names l = record {
  words : l.words ≡ words_of_names l.initial.table (take l.name-index l.names);
  table : l.table ≡ l.initial.table;
}
