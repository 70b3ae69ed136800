-- Symbols of lists that are joined.
use Rattle.std.proofs.Common.{◌≡◌, ◌∙◌, refl, sym, ap, ℕ, ◌+◌, ◌<◌, Bool, ◌||◌, List, [], ◌∷◌, ◌++◌, flat_map, length, drop, get_or, None}
use Rattle.std.proofs.lemmas.List.{at_drop_more}
use Rattle.std.proofs.lemmas.List.Folds.{list_any-append}
use Rattle.soar_sym.specs.Equality.{symbol_eq}
use Rattle.soar_sym.specs.declared.symbol.Sym.{Sym}
use Rattle.soar_sym.specs.declared.symbol.Sym.TheVariants.{Ident}
use Rattle.soar_rule.specs.Productions.{ValueOf, values_of}
use Rattle.soar_rule.specs.Symbols.{constants_of_value, constants_of_values}
use Rattle.defs_soar.specs.declared.preference.PrefKind.TheVariants as kind
use Rattle.defs_soar.specs.declared.preference.Wish.{Wish}
use Rattle.defs_soar.specs.Dependencies.{symbols_of_wish}
use Rattle.defs_soar.specs.Sorted.{has_symbol}

pub has_in_both : (xs ys : List Sym) (s : Sym) → has_symbol (xs ++ ys) s ≡ (has_symbol xs s || has_symbol ys s)
has_in_both xs ys s = list_any-append (symbol_eq s) xs ys

pub constants_of_all : (values : List ValueOf) → flat_map constants_of_value values ≡ constants_of_values (values_of values)
constants_of_all [] = refl
constants_of_all (v ∷ values) = ap (λ l. constants_of_value v ++ l) (constants_of_all values)

-- ---- wishes

-- what stands past the end
abbrev pub no_wish : Wish
no_wish = record { id = Ident 0 0; attr = Ident 0 0; value = Ident 0 0; kind = kind.Accept; referent = None }

-- one wish more
pub in_wishes : (wishes : List Wish) (i : ℕ) (s : Sym) (here : Bool) → i < length wishes → here ≡ has_symbol (symbols_of_wish (get_or wishes i no_wish)) s
    → has_symbol (flat_map symbols_of_wish (drop i wishes)) s ≡ (here || has_symbol (flat_map symbols_of_wish (drop (i + 1) wishes)) s)
in_wishes wishes i s here within is =
    at_drop_more (λ l. has_symbol (flat_map symbols_of_wish l) s) wishes i no_wish within
    ∙ has_in_both (symbols_of_wish (get_or wishes i no_wish)) (flat_map symbols_of_wish (drop (i + 1) wishes)) s
    ∙ ap (λ b. b || has_symbol (flat_map symbols_of_wish (drop (i + 1) wishes)) s) (sym is)
