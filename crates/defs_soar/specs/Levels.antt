-- Levels: how far from the top an identifier is reached.
use Rattle.std.specs.Prelude.{ℕ, suc, Bool, false, ◌&&◌, ◌||◌, ◌==◌, not, List, [], ◌∷◌, ◌++◌, map, length, Option, Some, None, if◌then◌else◌}
use Rattle.soar_sym.specs.Equality.{symbol_eq}
use Rattle.soar_sym.specs.declared.symbol.Sym.{Sym}
use Rattle.soar_sym.specs.declared.symbol.Triple.{Triple}
use Rattle.defs_soar.specs.declared.goal.Goal.{Goal}
use Rattle.defs_soar.specs.Goals.{goal_ids}
use Rattle.soar_rule.specs.Repeat.{until_same}
use Rattle.defs_soar.specs.Sorted.{has_symbol}
use Rattle.defs_soar.specs.Values.{is_identifier}

-- a walk goes on from what is reached, but not through a goal other than its own
abbrev pub goes_on_at : List Sym → Sym → Sym → Bool
goes_on_at goals own id = symbol_eq id own || not (has_symbol goals id)

abbrev pub with_reached : List Sym → Sym → List Sym
with_reached reached s = if has_symbol reached s then reached else reached ++ s ∷ []

abbrev pub is_step : List Sym → Sym → List Sym → Triple → Bool
is_step goals own reached t = is_identifier t.value && (has_symbol reached t.id && goes_on_at goals own t.id)

-- each triple once more, from identifier to value
abbrev pub one_step_more : List Sym → Sym → List Triple → List Sym → List Sym
one_step_more goals own [] reached = reached
one_step_more goals own (t ∷ triples) reached = one_step_more goals own triples (if is_step goals own reached t then with_reached reached t.value else reached)

abbrev pub same_length : {A : Type 0} → List A → List A → Bool
same_length xs ys = length xs == length ys

-- All that walks from a goal reach. Each round but the last reaches something new, of which there are no more than triples.
abbrev pub reached_from : List Sym → List Triple → Sym → List Sym
reached_from goals triples own = until_same same_length (length triples) (one_step_more goals own triples) (own ∷ [])

-- what each goal reaches, from the top
abbrev pub reaches : List Goal → List Triple → List (List Sym)
reaches goals triples = map (reached_from (goal_ids goals) triples) (goal_ids goals)

abbrev pub first_place : {A : Type 0} → (A → Bool) → ℕ → List A → Option ℕ
first_place p n [] = None
first_place p n (x ∷ xs) = if p x then Some n else first_place p (suc n) xs

abbrev pub or_reached : Option ℕ → Option ℕ → Option ℕ
or_reached (Some depth) other = Some depth
or_reached None other = other

-- the depth of a goal, and of anything else the least depth of a goal that reaches it
abbrev pub level_in : List Goal → List (List Sym) → Sym → Option ℕ
level_in goals reach s = or_reached (first_place (symbol_eq s) 1 (goal_ids goals)) (first_place (λ reached. has_symbol reached s) 1 reach)

abbrev pub level : List Goal → List Triple → Sym → Option ℕ
level goals triples s = level_in goals (reaches goals triples) s

abbrev pub is_level_one : Option ℕ → Bool
is_level_one None = false
is_level_one (Some depth) = depth == 1
