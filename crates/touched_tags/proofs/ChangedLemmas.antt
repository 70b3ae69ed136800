-- What is left of two lists that begin alike covers all that is not in both.
use Rattle.std.proofs.Common.{◌≡◌, ◌∙◌, refl, sym, ap, ap₂, ℕ, Bool, true, false, cond, not, ◌&&◌, ◌||◌, List, [], ◌∷◌, ◌++◌, take, drop}
use Rattle.std.proofs.lemmas.List.{take-append-drop}
use Rattle.std.proofs.lemmas.List.Folds.{list_any-append}
use Rattle.soar_sym.specs.Equality.{symbol_eq}
use Rattle.soar_sym.specs.declared.symbol.Sym.{Sym}
use Rattle.defs_soar.specs.Sorted.{has_symbol}
use Rattle.settling_laws.proofs.SymbolOrderLemmas.{symbol_same}
use Rattle.touched_tags.specs.Looked.{CoverChanged, left_by}

and_false : (a : Bool) → (a && false) ≡ false
and_false true = refl
and_false false = refl

has_left : (others ids : List Sym) (s : Sym) → has_symbol (left_by others ids) s ≡ (has_symbol ids s && not (has_symbol others s))
has_left others [] s = refl
has_left others (u ∷ ids) s = by (symbol_eq s u) refl (has_symbol others u) refl (has_left others ids s)
  where
    as_first : symbol_eq s u ≡ true → has_symbol others s ≡ has_symbol others u
    as_first p = ap (has_symbol others) (symbol_same s u p)

    by : (a : Bool) → symbol_eq s u ≡ a → (b : Bool) → has_symbol others u ≡ b → has_symbol (left_by others ids) s ≡ (has_symbol ids s && not (has_symbol others s))
        → has_symbol (cond (not b) (u ∷ left_by others ids) (left_by others ids)) s ≡ ((a || has_symbol ids s) && not (has_symbol others s))
    by true p true q later =
        later ∙ ap (λ b. has_symbol ids s && not b) (as_first p ∙ q) ∙ and_false (has_symbol ids s) ∙ sym (ap not (as_first p ∙ q))
    by true p false q later = ap (λ b. b || has_symbol (left_by others ids) s) p ∙ sym (ap not (as_first p ∙ q))
    by false p true q later = later
    by false p false q later = ap (λ b. b || has_symbol (left_by others ids) s) p ∙ later

parted : (n : ℕ) (ids : List Sym) (s : Sym) → has_symbol ids s ≡ (has_symbol (take n ids) s || has_symbol (drop n ids) s)
parted n ids s = sym (ap (λ l. has_symbol l s) (take-append-drop n ids)) ∙ list_any-append (symbol_eq s) (take n ids) (drop n ids)

same_of_left : (a b : Bool) → ((a && not b) || (b && not a)) ≡ false → a ≡ b
same_of_left true true h = refl
same_of_left true false h = absurd (cc)
same_of_left false true h = absurd (cc)
same_of_left false false h = refl

pub covered : (before ids old new changed : List Sym) (n : ℕ) → take n before ≡ take n ids → old ≡ drop n before → new ≡ drop n ids → changed ≡ left_by new old ++ left_by old new
    → CoverChanged before ids changed
covered before ids old new changed n alike old_is new_is is s none =
    parted n before s
    ∙ ap₂ (λ a b. a || b) (ap (λ l. has_symbol l s) alike) (ap (λ l. has_symbol l s) (sym old_is) ∙ same ∙ ap (λ l. has_symbol l s) new_is)
    ∙ sym (parted n ids s)
  where
    same : has_symbol old s ≡ has_symbol new s
    same =
        same_of_left (has_symbol old s) (has_symbol new s)
        (sym (ap₂ (λ a b. a || b) (has_left new old s) (has_left old new s))
        ∙ sym (list_any-append (symbol_eq s) (left_by new old) (left_by old new))
        ∙ ap (λ l. has_symbol l s) (sym is) ∙ none)
