-- The words of grounds are in the table where those of the whole chain are.
use Rattle.std.proofs.Common.{List, [], ◌∷◌, ◌++◌, flat_map}
use Rattle.soar_sym.specs.Words.{Texts}
use Rattle.soar_sym.specs.declared.symbol.Sym.{Sym}
use Rattle.soar_rule.specs.Symbols.{AreKnown}
use Rattle.soar_wm.specs.declared.element.Element.{Element}
use Rattle.condition_order.specs.Orders.{AreElementsKnown}
use Rattle.chunk_make.specs.Known.{IsChainKnown, symbols_of_firing}
use Rattle.defs_soar.specs.ChainIdentifiers.{firings_of}
use Rattle.defs_soar.specs.Dependencies.{symbols_of_wish}
use Rattle.defs_soar.specs.History.{ChainOf}
use Rattle.defs_soar.specs.Ungrounded.{symbols_of_element}

known_front : (words : Texts) (xs ys : List Sym) → AreKnown words (xs ++ ys) → AreKnown words xs
known_front words [] ys h = tt
known_front words (x ∷ xs) ys h = (h.0, known_front words xs ys h.1)

elements_known : (words : Texts) (elements : List Element) → AreKnown words (flat_map symbols_of_element elements) → AreElementsKnown words elements
elements_known words [] h = tt
elements_known words (e ∷ elements) h = ((h.0, h.1.0, h.1.1.0), elements_known words elements h.1.1.1)

pub grounds_known : (words : Texts) (c : ChainOf) → IsChainKnown words c → AreElementsKnown words c.grounds
grounds_known words c h =
    elements_known words c.grounds
    (known_front words (flat_map symbols_of_element c.grounds) (flat_map symbols_of_firing (firings_of c) ++ flat_map symbols_of_wish c.results) h)
