-- The first identifier without a variable in lists that are joined.
use Rattle.std.proofs.Common.{◌≡◌, ◌<◌, ◌+◌, ◌++◌, ◌&&◌, ◌∙◌, ℕ, Bool, true, false, not, cond, List, [], ◌∷◌, flat_map, length, get_or, drop, Option, Some, refl, ap, sym, add-one, drop-cons}
use Rattle.soar_sym.specs.declared.symbol.Sym.{Sym}
use Rattle.soar_rule.specs.Conditions.{Condition, all_of}
use Rattle.soar_rule.specs.Symbols.{constants_of_condition, constants_of_conditions}
use Rattle.defs_soar.specs.Sorted.{has_symbol}
use Rattle.defs_soar.specs.Ungrounded.{first_without, or_else}
use Rattle.defs_soar.specs.Values.{is_identifier}

either_first : (b : Bool) (s : Sym) (later more : Option Sym) → cond b (Some s) (or_else later more) ≡ or_else (cond b (Some s) later) more
either_first true s later more = refl
either_first false s later more = refl

pub first_in_both : (places xs ys : List Sym) → first_without places (xs ++ ys) ≡ or_else (first_without places xs) (first_without places ys)
first_in_both places [] ys = refl
first_in_both places (s ∷ xs) ys =
    ap (λ o. cond (is_identifier s && not (has_symbol places s)) (Some s) o) (first_in_both places xs ys)
    ∙ either_first (is_identifier s && not (has_symbol places s)) s (first_without places xs) (first_without places ys)

pub constants_of_list : (conds : List Condition) → flat_map constants_of_condition conds ≡ constants_of_conditions (all_of conds)
constants_of_list [] = refl
constants_of_list (c ∷ conds) = ap (λ symbols. constants_of_condition c ++ symbols) (constants_of_list conds)

-- the item at a place, and those behind it
drop_item : {A : Type 0} (xs : List A) (i : ℕ) (x : A) → i < length xs → x ≡ get_or xs i x → drop i xs ≡ x ∷ drop (i + 1) xs
drop_item xs i x within at = drop-cons xs i x within ∙ rw (← at, add-one i) refl

-- one item more, whose symbols come before those of the items behind it
pub first_next : {A : Type 0} (places : List Sym) (symbols : List A → List Sym) (own : A → List Sym) → ((x : A) (xs : List A) → symbols (x ∷ xs) ≡ own x ++ symbols xs)
    → (xs : List A) (i : ℕ) (x : A) (here : Option Sym) → i < length xs → x ≡ get_or xs i x → here ≡ first_without places (own x)
    → or_else here (first_without places (symbols (drop (i + 1) xs))) ≡ first_without places (symbols (drop i xs))
first_next places symbols own joined xs i x here within at is =
    ap (λ o. or_else o (first_without places (symbols (drop (i + 1) xs)))) is
    ∙ sym (first_in_both places (own x) (symbols (drop (i + 1) xs)))
    ∙ ap (first_without places) (sym (joined x (drop (i + 1) xs)))
    ∙ ap (λ ys. first_without places (symbols ys)) (sym (drop_item xs i x within at))
