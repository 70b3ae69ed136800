use Rattle.std.proofs.Common.{◌≡◌, take}
use Rattle.defs_soar.specs.Cycle.{without_triples}
use Rattle.output_link.proofs.changes.without.Given as goal

abbrev pub invariant-triples : goal.invariant-triples
invariant-triples l = l.out ≡ without_triples l.others (take l.triple-index l.triples)
