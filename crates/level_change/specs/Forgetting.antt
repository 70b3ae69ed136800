-- What has to be forgotten when links and goals change, and what has to wait then.
use Rattle.std.specs.Prelude.{◌≡◌, ℕ, ◌==◌, Bool, true, false, ◌||◌, List, [], ◌∷◌, Option, Some, None, ◌⊎◌}
use Rattle.std.specs.List.{list_any}
use Rattle.soar_sym.specs.Equality.{symbol_eq}
use Rattle.level_change.specs.declared.forgetting.Had.{Had}
use Rattle.soar_sym.specs.declared.symbol.Sym.{Sym}
use Rattle.defs_soar.specs.Sorted.{has_symbol}
use Rattle.level_laws.specs.Labels.{Links, Labels, depth_of_goal, GoalsHaveDepths}
use Rattle.level_graph.specs.Spreading.{Spreads}
use Rattle.level_change.specs.Passing.{SpreadsBut}

-- a symbol is the goal of one depth before and after, or none both times
abbrev pub StaysGoal : List Sym → List Sym → Sym → Type 0
StaysGoal old new s = depth_of_goal new s ≡ depth_of_goal old s

-- Forgotten is what had its level by a link that is gone, or by what is forgotten, and each goal that comes, goes or moves.
pub record Forgets (links : Links) (goals : List Sym) (told : Labels) (new_links : Links) (new_goals : List Sym) (forgotten : Sym → Bool) : Type 0 where
  pub by_link : (x y : Sym) (n : ℕ) → links x y ≡ true → told x ≡ Some n → told y ≡ Some n → has_symbol goals y ≡ false → (new_links x y ≡ true) ⊎ (forgotten y ≡ true)
  pub by_source : (x y : Sym) (n : ℕ) → links x y ≡ true → told x ≡ Some n → told y ≡ Some n → has_symbol goals y ≡ false → forgotten x ≡ true → forgotten y ≡ true
  pub by_goal : (s : Sym) (n : ℕ) → told s ≡ Some n → StaysGoal goals new_goals s ⊎ (forgotten s ≡ true)

-- the new goals have their depths, and else what is forgotten has no level, and the rest the one it had
pub record Keeps (told : Labels) (new_goals : List Sym) (forgotten : Sym → Bool) (kept : Labels) : Type 0 where
  pub goals : GoalsHaveDepths new_goals kept
  pub gone : (s : Sym) → has_symbol new_goals s ≡ false → forgotten s ≡ true → kept s ≡ None
  pub rest : (s : Sym) → has_symbol new_goals s ≡ false → forgotten s ≡ false → kept s ≡ told s

-- What waits or is left: each link from a symbol with a level that is new, leads to something forgotten, or comes from a new goal.
abbrev pub Waits : Links → List Sym → Links → List Sym → (Sym → Bool) → Labels → List Sym → Links → Type 0
Waits links goals new_links new_goals forgotten kept waiting left =
    (x y : Sym) (n : ℕ) → new_links x y ≡ true → kept x ≡ Some n → has_symbol new_goals y ≡ false
    → (has_symbol waiting x ≡ true) ⊎ ((left x y ≡ true) ⊎ ((links x y ≡ true) × (forgotten y ≡ false) × (StaysGoal goals new_goals x)))

-- Where links and goals change, it is enough to forget what had its level by something that is gone: the rest keeps its walks.
abbrev pub ForgettingIsSafe : Type 0
ForgettingIsSafe = (links : Links) (goals : List Sym) (told : Labels) (new_links : Links) (new_goals : List Sym) (forgotten : Sym → Bool) (kept : Labels) (waiting : List Sym) (left : Links) → Spreads links goals told []
    → Forgets links goals told new_links new_goals forgotten → Keeps told new_goals forgotten kept → Waits links goals new_links new_goals forgotten kept waiting left → SpreadsBut new_links new_goals kept waiting left

abbrev pub has_had : List Had → Sym → Bool
has_had had s = list_any (λ h. symbol_eq s h.id) had

-- each had this level
abbrev pub WereTold : Labels → List Had → Type 0
WereTold told [] = Unit {0}
WereTold told (h ∷ had) = (told h.id ≡ Some h.level) × WereTold told had

-- What is in the list has no level any more, and the rest the one it had. By what is forgotten all is forgotten that has its
-- level by it, but for what waits, and for what is left of the links of one symbol.
pub record Forgetting (links : Links) (goals : List Sym) (told : Labels) (now : Labels) (had : List Had) (waiting : List Had) (source : Sym) (left : List Sym) : Type 0 where
  pub none : (s : Sym) → has_had had s ≡ true → now s ≡ None
  pub same : (s : Sym) → has_had had s ≡ false → now s ≡ told s
  pub were : WereTold told had
  pub wait : WereTold told waiting
  pub next : (x y : Sym) (n : ℕ) → links x y ≡ true → told x ≡ Some n → told y ≡ Some n → has_symbol goals y ≡ false → has_had had x ≡ true
      → (has_had had y ≡ true) ⊎ ((has_had waiting x ≡ true) ⊎ ((x ≡ source) × (has_symbol left y ≡ true)))

abbrev pub has_level : Option ℕ → ℕ → Bool
has_level None n = false
has_level (Some m) n = m == n

-- links to what was forgotten, and these
abbrev pub and_had : List Had → Links → Links
and_had had left a b = has_had had b || left a b

-- Their levels were taken away from these symbols, and what had one is in the list.
pub record Cleared (told : Labels) (now : Labels) (had : List Had) (seeds : List Sym) : Type 0 where
  pub none : (s : Sym) → has_had had s ≡ true → now s ≡ None
  pub same : (s : Sym) → has_had had s ≡ false → now s ≡ told s
  pub were : WereTold told had
  pub all : (s : Sym) (n : ℕ) → has_symbol seeds s ≡ true → told s ≡ Some n → has_had had s ≡ true
