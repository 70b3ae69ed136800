-- The steps of one firing.
use Rattle.std.specs.Prelude.{not, List, flat_map, filter, map, ◌∷◌, ◌++◌, []}
use Rattle.defs_soar.specs.Explanation.{as_select_step, is_seen, namings_in_order, selection_of, TagNaming}
use Rattle.defs_soar.specs.History.{fire_step, FiringOf, StepOf}

-- the selections that a firing used and that were not seen
abbrev pub new_selections : List TagNaming → FiringOf → List TagNaming
new_selections seen f = filter (λ n. not (is_seen seen n)) (namings_in_order (flat_map selection_of f.used))

-- these, and then the firing
abbrev pub steps_of_firing : List TagNaming → FiringOf → List StepOf
steps_of_firing seen f = map as_select_step (new_selections seen f) ++ fire_step f ∷ []
