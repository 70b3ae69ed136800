use Rattle.std.proofs.Common.{◌≡◌, ◌≤◌, length}
use Rattle.defs_run.specs.WholeReading.{without_end_blanks}
use Rattle.file_names.proofs.blanks.without_end_blanks.Given as goal

abbrev pub invariant-blanks : goal.invariant-blanks
invariant-blanks l = record {
  rest : without_end_blanks l.rest ≡ without_end_blanks l.bytes;
  within : length l.rest ≤ length l.bytes;
}

abbrev pub decreases-blanks : goal.decreases-blanks
decreases-blanks l = length l.rest
