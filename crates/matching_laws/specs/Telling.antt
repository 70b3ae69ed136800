-- What a matcher is told of a step: the tags that went, then the elements that came, each in its turn.
use Rattle.std.specs.Prelude.{◌≡◌, ◌≤◌, List, [], ◌∷◌}
use Rattle.soar_sym.specs.Words.{Texts}
use Rattle.soar_sym.specs.declared.symbol.Triple.{Triple}
use Rattle.soar_wm.specs.declared.element.Element.{Element}
use Rattle.soar_wm.specs.WorkingMemory.{IsLawful, WorkingMemory, without_tag}
use Rattle.defs_match.specs.Contents.{HasTag, IsNewElement, with_element}
use Rattle.defs_soar.specs.declared.goal.Goal.{Goal}
use Rattle.soar_settle.specs.declared.changes.Changes.{Changes}
use Rattle.soar_settle.specs.Settles.{Retagged, after_of}
use Rattle.soar_settle.specs.Tagging.{without_each}

-- the elements with others, each at the place of its tag
abbrev pub with_each : List Element → List Element → List Element
with_each elements [] = elements
with_each elements (e ∷ others) = with_each (with_element elements e) others

-- the tag of each is there at its turn
abbrev pub AreRemovable : List Element → List Element → Type 0
AreRemovable elements [] = Unit {0}
AreRemovable elements (e ∷ gone) = HasTag elements e.tag × AreRemovable (without_tag e.tag elements) gone

-- neither the tag nor the triple of each is there at its turn
abbrev pub AreInsertable : List Element → List Element → Type 0
AreInsertable elements [] = Unit {0}
AreInsertable elements (e ∷ new) = IsNewElement elements e × AreInsertable (with_element elements e) new

-- what went can be taken out, then what came be taken in, and that makes these elements those
pub record IsTold (before after : List Element) (changes : Changes) : Type 0 where
  pub removable : AreRemovable before changes.gone
  pub insertable : AreInsertable (without_each before changes.gone) changes.new
  pub whole : with_each (without_each before changes.gone) changes.new ≡ after

-- the changes of a step tell the elements afterwards
abbrev pub ChangesAreTold : Type 0
ChangesAreTold =
    (words : Texts) (goals : List Goal) (kept : List Triple) (old new : WorkingMemory) (changes : Changes)
    → IsLawful old → Retagged (after_of words goals kept old) old new changes → IsTold old.elements new.elements changes

-- working memory stays lawful, where it may hold as many elements as a step may leave
abbrev pub RetaggedIsLawful : Type 0
RetaggedIsLawful =
    (words : Texts) (goals : List Goal) (kept : List Triple) (old new : WorkingMemory) (changes : Changes)
    → IsLawful old → 4000000 ≤ old.limit → Retagged (after_of words goals kept old) old new changes → IsLawful new
