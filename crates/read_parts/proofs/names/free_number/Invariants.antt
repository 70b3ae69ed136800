use Rattle.std.proofs.Common.{◌≡◌, ◌-◌, ◌≤◌, length}
use Rattle.defs_read.specs.FreshNames.{free_number}
use Rattle.read_parts.specs.Naming.{used_texts}
use Rattle.read_parts.proofs.names.free_number.Given as goal

abbrev pub invariant-used : goal.invariant-used
invariant-used l = record {
  rest : free_number (l.end - l.counter) (used_texts l.source) l.number ≡ free_number (length (used_texts l.source)) (used_texts l.source) l.from;
  later : l.from ≤ l.number;
}
