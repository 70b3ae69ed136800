use Rattle.std.proofs.Common.{◌≡◌, ◌++◌, filter, map, not, take}
use Rattle.defs_soar.specs.Explanation.{as_select_step, is_seen}
use Rattle.defs_soar.specs.History.{step_seen}
use Rattle.chunk_back.specs.Namings.{as_naming}
use Rattle.chunk_back.proofs.steps.add_new_selections.Given as goal

abbrev pub invariant-selections : goal.invariant-selections
invariant-selections l = map step_seen l.steps ≡ map step_seen l.initial.steps ++ map as_select_step (filter (λ n. not (is_seen l.seen n)) (map as_naming (take l.selection-index l.selections)))
