-- Symbols whose words are in the table.
use Rattle.std.specs.Prelude.{List, ◌∷◌, map, flat_map}
use Rattle.soar_sym.specs.Words.{Texts, IsKnown}
use Rattle.soar_sym.specs.declared.symbol.Sym.{Sym}
use Rattle.soar_rule.specs.Productions.{ActionOf}
use Rattle.soar_rule.specs.Symbols.{AreKnown, constants_of_action}
use Rattle.defs_match.specs.Testing.{Bindings}
use Rattle.defs_soar.specs.declared.preference.Wish.{Wish}
use Rattle.soar_fire.specs.Fires.{referents_of, AreWishesKnown}
use Rattle.soar_fire.specs.declared.functions.Computed.{Computed}
use Rattle.soar_fire.specs.declared.functions.Computed.TheVariants as code

-- `AreKnown` as a record, which lemmas take
pub record Knows (words : Texts) (symbols : List Sym) : Type 0 where
  pub are_known : AreKnown words symbols

abbrev pub bound_symbols : Bindings → List Sym
bound_symbols bindings = map (λ b. b.1) bindings

-- the symbol that a function gives
abbrev pub GivesKnown : Texts → Computed → Type 0
GivesKnown words (code.Gives s) = IsKnown words s
GivesKnown words (code.Spells text) = Unit {0}
GivesKnown words (code.Fails why) = Unit {0}

abbrev pub symbols_of_wish : Wish → List Sym
symbols_of_wish w = w.id ∷ w.attr ∷ w.value ∷ referents_of w.referent

-- `AreWishesKnown` as a record, which lemmas take
pub record KnowsWishes (words : Texts) (wishes : List Wish) : Type 0 where
  pub are_known : AreWishesKnown words wishes

abbrev pub constants_of_actions : List ActionOf → List Sym
constants_of_actions actions = flat_map constants_of_action actions
