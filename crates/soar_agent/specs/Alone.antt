-- Orders by what they ask for.
use Rattle.defs_run.specs.Orders.{Order, add_wme, chunk, excise, init_soar, load, local_negations, max_elaborations, queue, quit, random, remove_wme, run_cycles, select_by, source, watch}

-- it asks nothing of the caller: no cycles, no file and no end
abbrev pub IsAlone : Order → Type 0
IsAlone (run_cycles n) = ⊥
IsAlone (source name) = ⊥
IsAlone quit = ⊥
IsAlone other = Unit {0}

-- it looks at the agent
abbrev pub IsLooking : Order → Type 0
IsLooking (load production) = ⊥
IsLooking (excise name) = ⊥
IsLooking (source name) = ⊥
IsLooking (add_wme id attr value) = ⊥
IsLooking (remove_wme tag) = ⊥
IsLooking (queue adds id attr value) = ⊥
IsLooking (random words) = ⊥
IsLooking (run_cycles n) = ⊥
IsLooking (watch n) = ⊥
IsLooking (chunk on) = ⊥
IsLooking (local_negations on) = ⊥
IsLooking (select_by m) = ⊥
IsLooking (max_elaborations n) = ⊥
IsLooking init_soar = ⊥
IsLooking quit = ⊥
IsLooking other = Unit {0}
