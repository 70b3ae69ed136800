-- What some computations come to, in words that are apart from how they go.
use Rattle.std.specs.Prelude.{◌≡◌, true, List, [], ◌∷◌, take, length, Option, ◌⊎◌, ◌↔◌}
use Rattle.std.specs.List.{list_all}
use Rattle.soar_sym.specs.Words.{Texts}
use Rattle.soar_sym.specs.declared.symbol.Sym.{Sym}
use Rattle.soar_sym.specs.declared.symbol.Triple.{Triple}
use Rattle.defs_match.specs.Element.{Element}
use Rattle.defs_soar.specs.declared.goal.Goal.{Goal}
use Rattle.defs_soar.specs.declared.goal.Item.{Item}
use Rattle.defs_soar.specs.declared.preference.Preference.{Preference}
use Rattle.defs_soar.specs.ConditionOrder.{ordered_grounds}
use Rattle.defs_soar.specs.Goals.{goal_ids}
use Rattle.defs_soar.specs.Levels.{goes_on_at, reached_from}
use Rattle.defs_soar.specs.Settling.{Supports, one_settling, settled}
use Rattle.defs_soar.specs.Sorted.{has_symbol}
use Rattle.defs_soar.specs.Values.{is_identifier}
use Rattle.defs_soar.specs.Walk.{View, walked}

-- the list holds it
abbrev pub IsIn : {A : Type 0} → A → List A → Type 0
IsIn x [] = ⊥
IsIn x (y ∷ ys) = (y ≡ x) ⊎ IsIn x ys

-- ---- reach

-- a walk over triples from a goal, from identifier to value, that goes on through no other goal
pub data Walk (goals : List Sym) (triples : List Triple) (own : Sym) : Sym → Type 0 where
  at_goal : Walk goals triples own own
  one_more : (t : Triple) → IsIn t triples → is_identifier t.value ≡ true → goes_on_at goals own t.id ≡ true → Walk goals triples own t.id → Walk goals triples own t.value

-- what is reached is what a walk leads to
abbrev pub ReachedIsWalkedTo : Type 0
ReachedIsWalkedTo = (goals : List Sym) (triples : List Triple) (own s : Sym) → (has_symbol (reached_from goals triples own) s ≡ true) ↔ Walk goals triples own s

-- ---- settling

-- settling once more changes nothing
abbrev pub SettledStays : Type 0
SettledStays = (goals : List Goal) (s : Supports) → one_settling goals (settled goals s) ≡ settled goals s

-- these rows and inputs are among those
pub record IsWithin (small large : Supports) : Type 0 where
  pub rows : (row : Preference) → IsIn row small.rows → IsIn row large.rows
  pub inputs : (t : Triple) → IsIn t small.inputs → IsIn t large.inputs

-- what is settled is part of what there was
abbrev pub SettledIsWithin : Type 0
SettledIsWithin = (goals : List Goal) (s : Supports) → IsWithin (settled goals s) s

-- ---- decisions

-- the goals that stay after a decision's walk are those at the front
abbrev pub WalkKeepsTheFront : Type 0
WalkKeepsTheFront =
    (v : View) (renewal : Option (List Item)) (goals : List Goal) → goal_ids (walked v renewal goals).goals ≡ take (length (walked v renewal goals).goals) (goal_ids goals)

-- ---- the order of a learned rule's conditions

-- each ground taken has an identifier with a variable
abbrev pub TakenAreReached : Type 0
TakenAreReached =
    (words : Texts) (grounds : List Element) → list_all (λ e. has_symbol (ordered_grounds words grounds).places e.id) (ordered_grounds words grounds).taken ≡ true

-- and each is one of the grounds
abbrev pub TakenAreGrounds : Type 0
TakenAreGrounds = (words : Texts) (grounds : List Element) (e : Element) → IsIn e (ordered_grounds words grounds).taken → IsIn e grounds
