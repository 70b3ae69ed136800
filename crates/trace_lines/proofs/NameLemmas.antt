-- The least name, and names among the elements of an identifier.
use Rattle.std.proofs.Common.{◌≡◌, ◌∙◌, refl, ap, sym, ℕ, ◌+◌, ◌<◌, Bool, true, false, cond, ◌&&◌, not, List, [], ◌∷◌, drop, get_or, length, Some}
use Rattle.std.proofs.lemmas.List.{drop_more}
use Rattle.std.specs.Ordering.{is_lt}
use Rattle.soar_sym.specs.Equality.{symbol_eq}
use Rattle.soar_sym.specs.Order.{symbol_cmp}
use Rattle.soar_sym.specs.Words.{Texts}
use Rattle.soar_sym.specs.declared.symbol.Sym.{Sym}
use Rattle.soar_sym.specs.declared.symbol.Sym.TheVariants.{Ident}
use Rattle.soar_sym.proofs.KeyLemmas.{symbol_same}
use Rattle.soar_wm.specs.declared.element.Element.{Element}
use Rattle.soar_wm.specs.WorkingMemory.{elements_of}
use Rattle.defs_soar.specs.Architecture.{name_word}
use Rattle.defs_soar.specs.Decision.{first_symbol, names_of_operator}
use Rattle.defs_soar.specs.Sorted.{with_symbol}
use Rattle.trace_lines.specs.Names.{is_name_of, lesser}

-- the first of symbols in their order with one more
pub first_with : (words : Texts) (symbols : List Sym) (s : Sym) → first_symbol (with_symbol words symbols s) ≡ Some (lesser words (first_symbol symbols) s)
first_with words [] s = refl
first_with words (t ∷ symbols) s = by (symbol_eq s t) (is_lt (symbol_cmp words s t)) refl
  where
    by : (b d : Bool) → symbol_eq s t ≡ b → first_symbol (cond b (t ∷ symbols) (cond d (s ∷ t ∷ symbols) (t ∷ with_symbol words symbols s))) ≡ Some (cond d s t)
    by true true same = ap Some (sym (symbol_same s t same))
    by true false same = refl
    by false true same = refl
    by false false same = refl

abbrev pub no_element : Element
no_element = record { tag = 0; id = Ident 0 0; attr = Ident 0 0; value = Ident 0 0; accept = false; of_state = false }

-- where the element in front has a name of it
pub name_in_front : (words : Texts) (operator : Sym) (elements : List Element) (k at : ℕ) → at ≡ k + 1 → k < length elements
    → is_name_of operator (get_or elements k no_element) ≡ true
    → Some (lesser words (first_symbol (names_of_operator words (drop at elements) operator)) (get_or elements k no_element).value)
    ≡ first_symbol (names_of_operator words (drop k elements) operator)
name_in_front words operator elements k at next within is_name =
    let e : Element = get_or elements k no_element in
    let names : List Element → List Sym = λ es. names_of_operator words es operator in
    let later : List Sym = names (drop at elements) in
    let here : names (drop k elements) ≡ with_symbol words later e.value =
    ap names (drop_more elements k no_element within) ∙ ap (λ n. names (e ∷ drop n elements)) (sym next)
    ∙ ap (λ b. cond b (with_symbol words later e.value) later) is_name in
    sym (ap first_symbol here ∙ first_with words later e.value)

-- elements of others have no name of it
pub names_among : (words : Texts) (operator : Sym) (elements : List Element)
    → names_of_operator words (elements_of operator elements) operator ≡ names_of_operator words elements operator
names_among words operator [] = refl
names_among words operator (e ∷ elements) = by (symbol_eq e.id operator) refl (names_among words operator elements)
  where
    names : List Element → List Sym
    names es = names_of_operator words es operator

    others : List Element
    others = elements_of operator elements

    is_name : Bool → Bool
    is_name own = own && (symbol_eq e.attr name_word && not e.accept)

    by : (b : Bool) → symbol_eq e.id operator ≡ b → names others ≡ names elements
        → names (cond b (e ∷ others) others) ≡ cond (is_name b) (with_symbol words (names elements) e.value) (names elements)
    by true own later =
        ap (λ own. cond (is_name own) (with_symbol words (names others) e.value) (names others)) own
        ∙ ap (λ symbols. cond (is_name true) (with_symbol words symbols e.value) symbols) later
    by false own later = later
