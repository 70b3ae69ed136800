use Rattle.std.proofs.Common.{◌≡◌, drop}
use Rattle.std.specs.List.{list_any}
use Rattle.chunk_make.proofs.findings.has_state.Given as goal

abbrev pub invariant-elements : goal.invariant-elements
invariant-elements l = list_any (λ e. e.of_state) (drop l.element-index l.elements) ≡ list_any (λ e. e.of_state) l.elements
