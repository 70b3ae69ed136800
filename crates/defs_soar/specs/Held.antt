-- What preference memory, the goals and the inputs hold up.
use Rattle.std.specs.Prelude.{Bool, true, ◌&&◌, ◌||◌, not, List, [], ◌∷◌, ◌++◌, flat_map, if◌then◌else◌}
use Rattle.std.specs.List.{list_any}
use Rattle.soar_sym.specs.declared.symbol.Triple.{Triple}
use Rattle.defs_soar.specs.declared.preference.PrefKind.TheVariants as kind
use Rattle.defs_soar.specs.declared.preference.Preference.{Preference}
use Rattle.defs_soar.specs.declared.goal.Goal.{Goal}
use Rattle.defs_soar.specs.Goals.{is_operator_slot, plain_triple, goal_elements, selected_element}
use Rattle.defs_soar.specs.Values.{is_kind, same_triple}

abbrev pub marked_triple_of : Preference → Triple
marked_triple_of row = record { id = row.wish.id; attr = row.wish.attr; value = row.wish.value; accept = true }

-- some row rejects the triple
abbrev pub is_rejected : List Preference → Preference → Bool
is_rejected rows row = list_any (λ q. is_kind q.wish.kind kind.Reject && same_triple q row) rows

-- an acceptable row holds an ordinary triple up where none rejects it
abbrev pub held_ordinary : List Preference → Preference → List Triple
held_ordinary rows row =
    if is_kind row.wish.kind kind.Accept && not (is_rejected rows row) then plain_triple row.wish.id row.wish.attr row.wish.value ∷ [] else []

-- an acceptable or require row holds a goal's candidate up, marked
abbrev pub held_candidate : Preference → List Triple
held_candidate row = if is_kind row.wish.kind kind.Accept || is_kind row.wish.kind kind.Require then marked_triple_of row ∷ [] else []

abbrev pub held_by : List Preference → List Goal → Preference → List Triple
held_by rows goals row = if is_operator_slot goals row.wish.id row.wish.attr then held_candidate row else held_ordinary rows row

-- the goals' elements, their selected operators, the inputs, and what the rows hold up
abbrev pub held : List Preference → List Goal → List Triple → List Triple
held rows goals inputs = goal_elements goals ++ (flat_map selected_element goals ++ (inputs ++ flat_map (held_by rows goals) rows))
