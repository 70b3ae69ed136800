-- Elements by which the kind of a firing is told: of those that tell a selected operator, the first for each goal.
use Rattle.std.specs.Prelude.{ℕ, Bool, ◌&&◌, not, List, [], ◌∷◌, ◌++◌, if◌then◌else◌}
use Rattle.soar_sym.specs.Equality.{symbol_eq}
use Rattle.soar_sym.specs.declared.symbol.Sym.{Sym}
use Rattle.soar_wm.specs.declared.element.Element.{Element}
use Rattle.defs_soar.specs.Architecture.{operator_word}
use Rattle.defs_soar.specs.Laws.{IsIn}
use Rattle.defs_soar.specs.Sorted.{has_symbol}
use Rattle.learning_laws.specs.Waves.{TagsAre}

abbrev pub tells_selected : Element → Bool
tells_selected e = symbol_eq e.attr operator_word && not e.accept

-- another one for the same goal stood before
abbrev pub is_told_before : List Sym → Element → Bool
is_told_before seen e = tells_selected e && has_symbol seen e.id

abbrev pub with_seen : List Sym → Element → List Sym
with_seen seen e = if tells_selected e then seen ++ e.id ∷ [] else seen

abbrev pub tags_if : List Sym → Element → List ℕ
tags_if seen e = if is_told_before seen e then [] else e.tag ∷ []

-- without those behind the first for a goal
abbrev pub deciding : List Sym → List Element → List Element
deciding seen [] = []
deciding seen (e ∷ elements) = (if is_told_before seen e then [] else e ∷ []) ++ deciding (with_seen seen e) elements

-- elements of working memory, which their tags tell apart
pub record AreThere (elements memory : List Element) : Type 0 where
  pub within : (e : Element) → IsIn e elements → IsIn e memory
  pub tags : TagsAre memory memory
