-- Negations of a firing that are taken over, one after another.
use Rattle.std.specs.Prelude.{ℕ, List, [], map, filter}
use Rattle.soar_rule.specs.Conditions.{Condition}
use Rattle.soar_rule.specs.Renaming.{condition_with}
use Rattle.defs_match.specs.Testing.{Bindings}
use Rattle.defs_soar.specs.History.{ChainOf}
use Rattle.defs_soar.specs.Negations.{is_about_higher, bound_atom, with_own_from}

-- those of these negations that are about higher goals, with symbols in the places of bound variables
abbrev pub superstate_of : ChainOf → ℕ → Bindings → List Condition → List Condition
superstate_of c depth bindings negations =
    map (λ d. with_own_from 0 (condition_with (bound_atom bindings) d)) (filter (is_about_higher c depth bindings []) negations)
