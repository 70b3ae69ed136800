-- A symbol has a place where it is among those that have one.
use Rattle.std.proofs.Common.{◌≡◌, refl, ℕ, suc, Bool, true, false, ◌||◌, cond, List, [], ◌∷◌, Some}
use Rattle.std.specs.Prelude.{is_some}
use Rattle.soar_sym.specs.Equality.{symbol_eq}
use Rattle.soar_sym.specs.declared.symbol.Sym.{Sym}
use Rattle.defs_soar.specs.ConditionOrder.{place_from, variable_place}
use Rattle.defs_soar.specs.Sorted.{has_symbol}

has_place_from : (n : ℕ) (places : List Sym) (s : Sym) → is_some (place_from n places s) ≡ has_symbol places s
has_place_from n [] s = refl
has_place_from n (t ∷ places) s = by (symbol_eq s t) (has_place_from (suc n) places s)
  where
    by : (b : Bool) → is_some (place_from (suc n) places s) ≡ has_symbol places s → is_some (cond b (Some n) (place_from (suc n) places s)) ≡ (b || has_symbol places s)
    by true later = refl
    by false later = later

pub has_place : (places : List Sym) (s : Sym) → is_some (variable_place places s) ≡ has_symbol places s
has_place places s = has_place_from 0 places s
