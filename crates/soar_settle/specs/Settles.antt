-- What settling leaves, and what working memory is made of it.
use Rattle.std.specs.Prelude.{◌≡◌, ℕ, ◌+◌, List, [], ◌∷◌, length, Option, Some, None, Result, Ok, Err}
use Rattle.soar_sym.specs.Words.{Texts}
use Rattle.soar_sym.specs.declared.symbol.Triple.{Triple}
use Rattle.soar_wm.specs.declared.element.Element.{Element}
use Rattle.soar_wm.specs.WorkingMemory.{WorkingMemory, IsLawful}
use Rattle.defs_soar.specs.declared.goal.Goal.{Goal}
use Rattle.defs_soar.specs.declared.limit.Which.{Which}
use Rattle.defs_soar.specs.declared.preference.Preference.{Preference}
use Rattle.defs_soar.specs.Limits.{elements_to, tags_to, first_passed}
use Rattle.defs_soar.specs.Resettling.{without_elements}
use Rattle.defs_soar.specs.Settling.{Supports, settled, elements_after}
use Rattle.soar_settle.specs.declared.changes.Changes.{Changes}
use Rattle.soar_settle.specs.declared.stop.Stop.{Stop}
use Rattle.soar_settle.specs.declared.stop.Stop.TheVariants as stop

abbrev pub settled_from : List Goal → List Preference → List Triple → Supports
settled_from goals rows inputs = settled goals (record { rows = rows; inputs = inputs })

-- the elements afterwards
abbrev pub after_of : Texts → List Goal → List Triple → WorkingMemory → List Element
after_of words goals kept m = elements_after words goals kept m.last m.elements

-- the last tag afterwards
abbrev pub last_of : List Element → WorkingMemory → ℕ
last_of after m = m.last + length (without_elements m.elements after)

-- the limit that is passed first, of elements before tags
abbrev pub passed_by : List Element → WorkingMemory → Option Which
passed_by after m = first_passed (elements_to (length after) ∷ tags_to (last_of after m) ∷ [])

pub record Retagged (after : List Element) (old new : WorkingMemory) (changes : Changes) : Type 0 where
  pub lawful : IsLawful old
  pub memory_is : new ≡ record old { elements = after; last = last_of after old }
  pub gone_are : changes.gone ≡ without_elements after old.elements
  pub new_are : changes.new ≡ without_elements old.elements after
  pub within : passed_by after old ≡ None

-- each answer, exactly where it comes; only want of memory is free
abbrev pub Retags : Texts → List Goal → List Triple → WorkingMemory → WorkingMemory → Result Changes Stop → Type 0
Retags words goals kept old new (Ok changes) = Retagged (after_of words goals kept old) old new changes
Retags words goals kept old new (Err (stop.Limit which)) = (passed_by (after_of words goals kept old) old ≡ Some which) × (new ≡ old)
Retags words goals kept old new (Err stop.NoMemory) = Unit {0}
