-- The explanation by the firings of some numbers.
use Rattle.std.specs.Prelude.{ℕ, List, [], ◌++◌, map, flat_map}
use Rattle.defs_soar.specs.Explanation.{architecture_of, as_item_step, by_tag, firing_of, firing_steps, item_of, namings_in_order, upper_of}
use Rattle.defs_soar.specs.History.{architecture_step, ChainOf, FiringOf, StepOf}
use Rattle.chunk_back.specs.Parts.{uses_of}

abbrev pub steps_of_numbers : List FiringOf → List ℕ → List StepOf
steps_of_numbers firings numbers =
    map architecture_step (by_tag (flat_map architecture_of (uses_of firings numbers)))
    ++ (map as_item_step (namings_in_order (flat_map item_of (uses_of firings numbers))) ++ firing_steps [] (flat_map (firing_of firings) numbers))

-- with no results
abbrev pub chain_of_numbers : List FiringOf → List ℕ → ChainOf
chain_of_numbers firings numbers = record { grounds = by_tag (flat_map upper_of (uses_of firings numbers)); steps = steps_of_numbers firings numbers; results = [] }
