-- The goals' own elements: which they are, and how they were used. No public clause cites this.
use Rattle.std.specs.Prelude.{◌≡◌, List, [], ◌∷◌, if◌then◌else◌}
use Rattle.soar_sym.specs.Equality.{symbol_eq}
use Rattle.soar_sym.specs.declared.symbol.Sym.{Sym}
use Rattle.soar_sym.specs.declared.symbol.Triple.{Triple}
use Rattle.soar_wm.specs.declared.element.Element.{Element}
use Rattle.defs_soar.specs.declared.firing.How.TheVariants as how
use Rattle.defs_soar.specs.declared.firing.Used.{Used}
use Rattle.defs_soar.specs.declared.goal.Item.{Item}
use Rattle.defs_soar.specs.Architecture.{item_word}
use Rattle.defs_soar.specs.Uses.{item_in, item_uses, used_as}
use Rattle.defs_soar.specs.Values.{has_triple_among}

-- the same triples are among the one as among the other
abbrev pub HasSame : List Triple → List Triple → Type 0
HasSame xs ys = (t : Triple) → has_triple_among xs t ≡ has_triple_among ys t

-- an element of a goal with these items
abbrev pub uses_of_goal : Sym → List Item → Element → List Used
uses_of_goal superstate items e = if symbol_eq e.attr item_word then item_uses superstate e (item_in items e.value) else used_as e how.Architecture ∷ []
