-- A substate below the last goal, before anything settles.
use Rattle.std.specs.Prelude.{◌≡◌, ◌+◌, List, [], ◌∷◌, Some, None, Result, Ok, Err}
use Rattle.soar_sym.specs.Letters.{last_of}
use Rattle.soar_sym.specs.declared.symbol.Sym.{Sym}
use Rattle.soar_sym.specs.declared.symbol.Sym.TheVariants.{Ident}
use Rattle.defs_soar.specs.declared.goal.Impasse.{Impasse}
use Rattle.defs_soar.specs.declared.goal.Item.{Item}
use Rattle.defs_soar.specs.Agents.{Agent}
use Rattle.defs_soar.specs.Limits.{identifiers_to, first_passed}
use Rattle.soar_settle.specs.declared.stop.Stop.{Stop}
use Rattle.soar_settle.specs.declared.stop.Stop.TheVariants as stop
use Rattle.decision_parts.specs.Deciding.{with_substate}
use Rattle.wave_parts.specs.Stands.{Stands}
use Rattle.wave_parts.specs.declared.parts.Parts.{Parts as PartsKept}

-- the new goal is the next state that the letters give
pub record HasPushed (s : Agent) (why : Impasse) (items : List Item) (new : PartsKept) (goal : Sym) : Type 0 where
  pub goal_is : goal ≡ Ident 83 (last_of s.names.letters 83 + 1)
  pub stands : Stands new (with_substate s why items)
  pub within : first_passed (identifiers_to (last_of s.names.letters 83 + 1) ∷ []) ≡ None

-- each answer, exactly where it comes; only want of memory is free
abbrev pub PushesGoal : Agent → Impasse → List Item → PartsKept → Result Sym Stop → Type 0
PushesGoal s why items new (Ok goal) = HasPushed s why items new goal
PushesGoal s why items new (Err (stop.Limit limit)) = first_passed (identifiers_to (last_of s.names.letters 83 + 1) ∷ []) ≡ Some limit
PushesGoal s why items new (Err stop.NoMemory) = Unit {0}
