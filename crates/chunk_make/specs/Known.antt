-- Chains whose words are in the table, and tables that have grown.
use Rattle.std.specs.Prelude.{◌≡◌, List, ◌++◌, flat_map}
use Rattle.soar_sym.specs.Words.{Texts}
use Rattle.soar_sym.specs.declared.symbol.Sym.{Sym}
use Rattle.soar_rule.specs.Symbols.{AreKnown, symbols_of}
use Rattle.defs_soar.specs.ChainIdentifiers.{firings_of}
use Rattle.defs_soar.specs.Dependencies.{symbols_of_wish}
use Rattle.defs_soar.specs.History.{ChainOf, FiringOf}
use Rattle.defs_soar.specs.Ungrounded.{symbols_of_element}

-- the symbols of what a firing used and made, of its bindings and of its rule
abbrev pub symbols_of_firing : FiringOf → List Sym
symbols_of_firing f = flat_map (λ u. symbols_of_element u.element) f.used ++ (flat_map symbols_of_wish f.made ++ (f.instance.binds ++ symbols_of f.rule.production))

abbrev pub symbols_of_chain : ChainOf → List Sym
symbols_of_chain c = flat_map symbols_of_element c.grounds ++ (flat_map symbols_of_firing (firings_of c) ++ flat_map symbols_of_wish c.results)

abbrev pub IsChainKnown : Texts → ChainOf → Type 0
IsChainKnown words c = AreKnown words (symbols_of_chain c)

-- the table has only gained words at its end
pub record HasGrown (old later : Texts) : Type 0 where
  pub grown : (more : Texts) × (later ≡ old ++ more)
