-- Levels on their way along links.
use Rattle.std.specs.Prelude.{◌≡◌, ℕ, ◌+◌, true, false, ◌&&◌, ◌||◌, List, [], ◌∷◌, Option, Some, None, ◌⊎◌}
use Rattle.soar_sym.specs.Equality.{symbol_eq}
use Rattle.soar_sym.specs.declared.symbol.Sym.{Sym}
use Rattle.soar_sym.specs.declared.symbol.Triple.{Triple}
use Rattle.defs_soar.specs.Sorted.{has_symbol}
use Rattle.level_laws.specs.Labels.{has_edge, Links, Labels, GoalsHaveDepths, IsAtMost, IsSound}
use Rattle.level_change.specs.declared.store.Store.{Store}
use Rattle.level_change.specs.Links.{Place, symbol_of, is_linked}

-- Goals have their depths, walks lead to all levels, and what is not closed waits, or is left to be passed.
pub record SpreadsBut (links : Links) (goals : List Sym) (told : Labels) (waiting : List Sym) (left : Links) : Type 0 where
  pub depths : GoalsHaveDepths goals told
  pub sound : IsSound links goals told
  pub closed : (x y : Sym) (n : ℕ) → links x y ≡ true → told x ≡ Some n → has_symbol goals y ≡ false → IsAtMost (told y) n ⊎ ((has_symbol waiting x ≡ true) ⊎ (left x y ≡ true))

-- one link and these
abbrev pub and_link : Sym → Sym → Links → Links
and_link from to left a b = (symbol_eq a from && symbol_eq b to) || left a b

-- links from these to a symbol, and these
abbrev pub and_links : List Sym → Sym → Links → Links
and_links sources to left a b = (has_symbol sources a && symbol_eq b to) || left a b

-- links of triples, and these
abbrev pub and_edges : List Triple → Links → Links
and_edges triples left a b = has_edge triples a b || left a b

abbrev pub no_links : Links
no_links a b = false

-- a symbol that is not in the list is told the level that it had
abbrev pub KeptBut : Labels → Labels → List Sym → Type 0
KeptBut old told moved = (s : Sym) → has_symbol moved s ≡ false → told s ≡ old s

-- a symbol is linked to each of these
abbrev pub AreLinked : Store → Sym → List Sym → Type 0
AreLinked links x values = (y : Sym) → has_symbol values y ≡ true → is_linked links x y ≡ true

-- a number for what is told, over the ends of all links
abbrev pub total : {X : Type 0} → (Option ℕ → ℕ) → Labels → List (Place × X) → ℕ
total f told [] = 0
total f told (l ∷ places) = f (told (symbol_of l.0.1)) + total f told places

abbrev pub totals : (Option ℕ → ℕ) → Labels → Store → ℕ
totals f told links = total f told links.base.entries + total f told links.late.entries

abbrev pub one_if_told : Option ℕ → ℕ
one_if_told None = 0
one_if_told (Some level) = 1
