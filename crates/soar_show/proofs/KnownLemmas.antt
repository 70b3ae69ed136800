-- Parts of known symbols are known.
use Rattle.std.proofs.Common.{◌≡◌, ℕ, suc, zero, ◌+◌, ◌<◌, List, [], ◌∷◌, ◌++◌, flat_map, length, drop, get_or, refl, ap, ◌∙◌, subst}
use Rattle.soar_sym.specs.Words.{Texts, IsKnown}
use Rattle.soar_sym.specs.declared.symbol.Sym.{Sym}
use Rattle.soar_sym.specs.declared.symbol.Sym.TheVariants.{Ident, Word, Int}
use Rattle.soar_rule.specs.Productions.{values_of, ProductionOf, ValueOf}
use Rattle.soar_rule.specs.Symbols.{constants_of, constants_of_action, constants_of_conditions, constants_of_value, constants_of_values, symbols_of, AreKnown}
use Rattle.defs_read.specs.PrintingConditions.{name_at}
use Rattle.soar_show.specs.Known.{HasBareText, Knows}
use Rattle.soar_show.proofs.ListLemmas.{drop_item}

pub name_at_is : (vars : List Sym) (n : ℕ) → name_at vars n ≡ get_or vars n (Word 0)
name_at_is [] n = refl
name_at_is (x ∷ xs) zero = refl
name_at_is (x ∷ xs) (suc n) = name_at_is xs n

pub knows_head : (words : Texts) (x : Sym) (xs : List Sym) → Knows words (x ∷ xs) → IsKnown words x
knows_head words x xs h = h.are_known.0

pub knows_tail : (words : Texts) (x : Sym) (xs : List Sym) → Knows words (x ∷ xs) → Knows words xs
knows_tail words x xs h = record { are_known = h.are_known.1 }

front_known : (words : Texts) (xs ys : List Sym) → AreKnown words (xs ++ ys) → AreKnown words xs
front_known words [] ys h = tt
front_known words (x ∷ xs) ys h = (h.0, front_known words xs ys h.1)

back_known : (words : Texts) (xs ys : List Sym) → AreKnown words (xs ++ ys) → AreKnown words ys
back_known words [] ys h = h
back_known words (x ∷ xs) ys h = back_known words xs ys h.1

pub knows_front : (words : Texts) (xs ys : List Sym) → Knows words (xs ++ ys) → Knows words xs
knows_front words xs ys h = record { are_known = front_known words xs ys h.are_known }

pub knows_back : (words : Texts) (xs ys : List Sym) → Knows words (xs ++ ys) → Knows words ys
knows_back words xs ys h = record { are_known = back_known words xs ys h.are_known }

has_text : (words : Texts) (s : Sym) → IsKnown words s → HasBareText s
has_text words (Ident letter number) h = h.1
has_text words (Word n) h = tt
has_text words (Int value) h = tt

name_text : (words : Texts) (vars : List Sym) (n : ℕ) → AreKnown words vars → HasBareText (name_at vars n)
name_text words [] n h = tt
name_text words (x ∷ vars) zero h = has_text words x h.0
name_text words (x ∷ vars) (suc n) h = name_text words vars n h.1

pub name_has_text : (words : Texts) (vars : List Sym) (n : ℕ) → Knows words vars → HasBareText (name_at vars n)
name_has_text words vars n h = name_text words vars n h.are_known

-- ---- an item of a list, and those behind it

-- the symbols of a list that begins with the item are the item's and those of the rest
pub knows_item : {A : Type 0} (of : A → List Sym) (of_all : List A → List Sym) → ((x : A) (xs : List A) → of_all (x ∷ xs) ≡ of x ++ of_all xs)
    → (words : Texts) (xs : List A) (i : ℕ) (x : A) → i < length xs → x ≡ get_or xs i x → Knows words (of_all (drop i xs)) → Knows words (of x)
knows_item of of_all parts words xs i x within at h =
    knows_front words (of x) (of_all (drop (i + 1) xs)) (subst (Knows words) (ap of_all (drop_item xs i x within at) ∙ parts x (drop (i + 1) xs)) h)

pub knows_later : {A : Type 0} (of : A → List Sym) (of_all : List A → List Sym) → ((x : A) (xs : List A) → of_all (x ∷ xs) ≡ of x ++ of_all xs)
    → (words : Texts) (xs : List A) (i : ℕ) (x : A) → i < length xs → x ≡ get_or xs i x → Knows words (of_all (drop i xs)) → Knows words (of_all (drop (i + 1) xs))
knows_later of of_all parts words xs i x within at h =
    knows_back words (of x) (of_all (drop (i + 1) xs)) (subst (Knows words) (ap of_all (drop_item xs i x within at) ∙ parts x (drop (i + 1) xs)) h)

-- ---- values that are written

pub constants_are : (vs : List ValueOf) → flat_map constants_of_value vs ≡ constants_of_values (values_of vs)
constants_are [] = refl
constants_are (v ∷ vs) = ap (λ rest. constants_of_value v ++ rest) (constants_are vs)

-- ---- the parts of a production

behind_vars : (words : Texts) (p : ProductionOf) → AreKnown words (symbols_of p) → Knows words (p.vars ++ constants_of p)
behind_vars words p h = record { are_known = h.1 }

pub knows_vars : (words : Texts) (p : ProductionOf) → AreKnown words (symbols_of p) → Knows words p.vars
knows_vars words p h = knows_front words p.vars (constants_of p) (behind_vars words p h)

knows_constants : (words : Texts) (p : ProductionOf) → AreKnown words (symbols_of p) → Knows words (constants_of p)
knows_constants words p h = knows_back words p.vars (constants_of p) (behind_vars words p h)

pub knows_conditions : (words : Texts) (p : ProductionOf) → AreKnown words (symbols_of p) → Knows words (constants_of_conditions p.conditions)
knows_conditions words p h = knows_front words (constants_of_conditions p.conditions) (flat_map constants_of_action p.actions) (knows_constants words p h)

pub knows_actions : (words : Texts) (p : ProductionOf) → AreKnown words (symbols_of p) → Knows words (flat_map constants_of_action p.actions)
knows_actions words p h = knows_back words (constants_of_conditions p.conditions) (flat_map constants_of_action p.actions) (knows_constants words p h)
