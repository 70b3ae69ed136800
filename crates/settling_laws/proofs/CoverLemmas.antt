-- Variablized that are not among the changed ones hold the same rows.
use Rattle.std.proofs.Common.{◌≡◌, refl, sym, ◌∙◌, ap, Bool, true, false, ◌&&◌, inl, inr, List, [], ◌∷◌, ◌++◌, filter, cond}
use Rattle.std.proofs.lemmas.List.Elements.{filter-append}
use Rattle.soar_sym.specs.Equality.{symbol_eq}
use Rattle.soar_sym.specs.declared.symbol.Sym.{Sym}
use Rattle.defs_soar.specs.declared.preference.Preference.{Preference}
use Rattle.defs_soar.specs.Laws.{IsIn}
use Rattle.defs_soar.specs.Preferences.{slot_of}
use Rattle.settling_laws.specs.Changes.{Variablized, is_slot, has_slot, with_slot, AddedIsCovered, DroppedAreCovered}
use Rattle.settling_laws.proofs.MemberLemmas.{any_last, any_more, same_itself, symbol_same}

abbrev of_slot : Sym → Sym → Preference → Bool
of_slot id attr row = symbol_eq row.wish.id id && symbol_eq row.wish.attr attr

both : (a b : Bool) → a ≡ true → b ≡ true → (a && b) ≡ true
both a b e f = cc

pub slot_itself : (slots : Variablized) (id attr : Sym) → has_slot (with_slot slots id attr) id attr ≡ true
slot_itself slots id attr = by (has_slot slots id attr) refl
  where
    by : (b : Bool) → has_slot slots id attr ≡ b → has_slot (cond b slots (slots ++ (id, attr) ∷ [])) id attr ≡ true
    by true e = e
    by false e = any_last (is_slot id attr) slots (id, attr) (both (symbol_eq id id) (symbol_eq attr attr) (same_itself id) (same_itself attr))

pub slot_stays : (slots : Variablized) (id attr other name : Sym) → has_slot slots other name ≡ true → has_slot (with_slot slots id attr) other name ≡ true
slot_stays slots id attr other name h = by (has_slot slots id attr)
  where
    by : (b : Bool) → has_slot (cond b slots (slots ++ (id, attr) ∷ [])) other name ≡ true
    by true = h
    by false = any_more (is_slot other name) slots ((id, attr) ∷ []) h

first : (a b : Bool) → (a && b) ≡ true → a ≡ true
first true b h = refl
first false b h = absurd (cc)

second : (a b : Bool) → (a && b) ≡ true → b ≡ true
second true b h = h
second false b h = absurd (cc)

-- a row of the slot tells it
tells_slot : (slots : Variablized) (id attr : Sym) (row : Preference) → of_slot id attr row ≡ true → has_slot slots row.wish.id row.wish.attr ≡ has_slot slots id attr
tells_slot slots id attr row h =
    let same_id = symbol_same row.wish.id id (first (symbol_eq row.wish.id id) (symbol_eq row.wish.attr attr) h) in
    let same_attr = symbol_same row.wish.attr attr (second (symbol_eq row.wish.id id) (symbol_eq row.wish.attr attr) h) in
    λ i. has_slot slots (same_id i) (same_attr i)

-- what is not there was not there before
not_yet : (a b : Bool) → (a ≡ true → b ≡ true) → b ≡ false → a ≡ false
not_yet true b w h = absurd (let e = w refl in cc)
not_yet false b w h = refl

pub added_is_covered : AddedIsCovered
added_is_covered slots old rows row h id attr new =
    h id attr (not_yet (has_slot slots id attr) (has_slot (with_slot slots row.wish.id row.wish.attr) id attr) (slot_stays slots row.wish.id row.wish.attr id attr) new)
    ∙ sym (filter-append (of_slot id attr) rows (row ∷ []) ∙ by (of_slot id attr row) refl)
  where
    nothing_more : {A : Type 0} (xs : List A) → xs ++ [] ≡ xs
    nothing_more [] = refl
    nothing_more (x ∷ xs) = ap (λ l. x ∷ l) (nothing_more xs)

    by : (b : Bool) → of_slot id attr row ≡ b → slot_of rows id attr ++ cond b (row ∷ []) [] ≡ slot_of rows id attr
    by true e =
        let there = sym (tells_slot (with_slot slots row.wish.id row.wish.attr) id attr row e) ∙ slot_itself slots row.wish.id row.wish.attr in
        absurd (cc)
    by false e = nothing_more (slot_of rows id attr)

-- where all that one test takes pass the other
filter_untouched : {A : Type 0} (p q : A → Bool) (xs : List A) → ((x : A) → IsIn x xs → p x ≡ true → q x ≡ true) → filter p (filter q xs) ≡ filter p xs
filter_untouched p q [] h = refl
filter_untouched p q (x ∷ xs) h = by (p x) (q x) refl refl (filter_untouched p q xs (λ y i. h y (inr i))) (h x (inl refl))
  where
    by : (b c : Bool) → p x ≡ b → q x ≡ c → filter p (filter q xs) ≡ filter p xs → (p x ≡ true → q x ≡ true)
        → filter p (cond c (x ∷ filter q xs) (filter q xs)) ≡ cond (p x) (x ∷ filter p xs) (filter p xs)
    by b true e f later w = ap (λ l. cond (p x) (x ∷ l) l) later
    by false false e f later w = later ∙ sym (ap (λ d. cond d (x ∷ filter p xs) (filter p xs)) e)
    by true false e f later w = absurd (let k = w e in cc)

pub dropped_are_covered : DroppedAreCovered
dropped_are_covered slots slots′ old rows stay h more gone id attr new =
    h id attr (not_yet (has_slot slots id attr) (has_slot slots′ id attr) (more id attr) new)
    ∙ sym (filter_untouched (of_slot id attr) stay rows (λ row i e. by row i e (stay row) refl))
  where
    by : (row : Preference) → IsIn row rows → of_slot id attr row ≡ true → (b : Bool) → stay row ≡ b → b ≡ true
    by row i e true f = refl
    by row i e false f = let there = sym (tells_slot slots′ id attr row e) ∙ gone row i f in absurd (cc)
