-- What the matcher holds, and the places at which it puts and finds it.
use Rattle.std.specs.Prelude.{ℕ, Bool, false, nat_lt, not, List, []}
use Rattle.std.specs.List.{prefix_len}
use Rattle.soar_wm.specs.declared.element.Element.{Element}
use Rattle.soar_wm.specs.WorkingMemory.{has_tag}
use Rattle.defs_match.specs.declared.rule.Rule.{Rule}

-- the rules by number, the elements by tag, and whether memory was refused
pub record Contents : Type 0 where
  pub rules : List Rule
  pub elements : List Element
  pub failed : Bool

abbrev pub no_contents : Contents
no_contents = record { rules = []; elements = []; failed = false }

-- ---- places, each told by how many come before it

-- the place for a new element of a tag
abbrev pub place_for_tag : ℕ → List Element → ℕ
place_for_tag tag elements = prefix_len (λ e. not (nat_lt tag e.tag)) elements

-- the place of the element of a tag, or the end
abbrev pub place_of_tag : ℕ → List Element → ℕ
place_of_tag tag elements = prefix_len (λ e. not (has_tag tag e)) elements

-- the place for a new rule of a number
abbrev pub place_for_number : ℕ → List Rule → ℕ
place_for_number number rules = prefix_len (λ (r : Rule). not (nat_lt number r.number)) rules
