use Rattle.std.proofs.Common.{◌≡◌, drop, map}
use Rattle.chunk_back.specs.Namings.{as_naming}
use Rattle.chunk_back.specs.Parts.{with_namings}
use Rattle.chunk_back.proofs.steps.see_all.Given as goal

abbrev pub invariant-selections : goal.invariant-selections
invariant-selections l = l.seen ≡ with_namings (map as_naming (drop l.at l.selections)) l.initial.seen
