-- The links that rows make, one more at a time.
use Rattle.std.proofs.Common.{◌≡◌, ◌∙◌, refl, sym, ap, Bool, true, false, ◌&&◌, ◌||◌}
use Rattle.soar_sym.specs.Equality.{symbol_eq}
use Rattle.soar_sym.specs.declared.symbol.Sym.{Sym}
use Rattle.defs_soar.specs.declared.preference.PrefKind.TheVariants as kind
use Rattle.defs_soar.specs.declared.preference.Preference.{Preference}
use Rattle.defs_soar.specs.Dependencies.{symbols_of_referent}
use Rattle.defs_soar.specs.Results.{named_by}
use Rattle.defs_soar.specs.Sorted.{has_symbol}
use Rattle.defs_soar.specs.Values.{is_identifier, is_kind}
use Rattle.chunk_results.specs.Held.{row_leads}

row_and_link : (a v r i old : Bool) → ((a && (v && i)) || ((a && (r && i)) || old)) ≡ ((a && ((v || r) && i)) || old)
row_and_link false v r i old = refl
row_and_link true true r true old = refl
row_and_link true true true false old = refl
row_and_link true true false false old = refl
row_and_link true false r i old = refl

pub row_linked : (row : Preference) (x y : Sym) (old mid new : Bool) → is_kind row.wish.kind kind.Accept ≡ true
    → mid ≡ ((symbol_eq x row.wish.id && (has_symbol (symbols_of_referent row.wish.referent) y && is_identifier y)) || old)
    → new ≡ ((symbol_eq x row.wish.id && (symbol_eq y row.wish.value && is_identifier y)) || mid) → new ≡ (row_leads row x y || old)
row_linked row x y old mid new accepted one other =
    other ∙ ap (λ b. (symbol_eq x row.wish.id && (symbol_eq y row.wish.value && is_identifier y)) || b) one
    ∙ row_and_link (symbol_eq x row.wish.id) (symbol_eq y row.wish.value) (has_symbol (symbols_of_referent row.wish.referent) y) (is_identifier y) old
    ∙ ap (λ b. (b && (symbol_eq x row.wish.id && (has_symbol (named_by row.wish) y && is_identifier y))) || old) (sym accepted)
