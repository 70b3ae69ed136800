use Rattle.std.proofs.Common.{◌≡◌, ◌<◌, ◌^◌, length, drop}
use Rattle.chunk_make.specs.Known.{HasGrown}
use Rattle.defs_soar.specs.CandidateOf.{words_after}
use Rattle.chunk_make.proofs.words.join.Given as goal

abbrev pub invariant-names : goal.invariant-names
invariant-names l = record {
  words : words_after l.table (drop l.name-index l.names) ≡ words_after l.initial.table l.names;
  few : length l.table < 2 ^ 32;
  grown : HasGrown l.initial.table l.table;
}
