use Rattle.std.proofs.Common.{◌≡◌, drop}
use Rattle.defs_soar.specs.Results.{accepted_for, each_triple_once}
use Rattle.chunk_results.proofs.closure.closure_of.Given as goal

abbrev pub invariant-rows : goal.invariant-rows
invariant-rows l = l.closure.items ≡ each_triple_once l.table (accepted_for (drop l.at l.rows) l.ids)
