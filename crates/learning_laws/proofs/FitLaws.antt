-- The grounds in order fit the conditions that are made of them.
use Rattle.std.proofs.Common.{◌≡◌, refl, sym, ◌∙◌, ap, subst, ℕ, ◌+◌, Bool, true, false, ◌==◌, cond, inl, inr, ◌⊎◌, arith, List, [], ◌∷◌, ◌++◌, length, append_assoc}
use Rattle.soar_sym.specs.Equality.{symbol_eq}
use Rattle.soar_sym.specs.declared.symbol.Sym.{Sym}
use Rattle.soar_wm.specs.declared.element.Element.{Element}
use Rattle.defs_match.specs.Testing.{stands}
use Rattle.defs_soar.specs.CarriedTests.{Placed}
use Rattle.defs_soar.specs.ConditionOrder.{with_place}
use Rattle.defs_soar.specs.Laws.{IsIn}
use Rattle.defs_soar.specs.Variablized.{Variablized, of_identifier}
use Rattle.defs_soar.specs.Sorted.{has_symbol}
use Rattle.defs_soar.specs.Values.{is_identifier}
use Rattle.learning_laws.proofs.FieldLaws.{AllHold, HaveSlots}
use Rattle.learning_laws.proofs.Lists.{in_append, in_left, in_right, filter_within, any_some, same_number, symbol_same}
use Rattle.learning_laws.proofs.MatchLaws.{ElementsFit, FieldFits, places_with, places_after, tests_here}
use Rattle.learning_laws.proofs.PlacedLaws.{IsPlaced, one_symbol, symbols_of}

-- ---- identifiers that have a variable

pub place_kept : (seen : List Sym) (s t : Sym) → IsIn t seen → IsIn t (with_place seen s)
place_kept seen s t i = go (is_identifier s) (has_symbol seen s)
  where
    go : (a b : Bool) → IsIn t (cond a (cond b seen (seen ++ s ∷ [])) seen)
    go true true = i
    go true false = in_left t seen (s ∷ []) i
    go false b = i

pub place_new : (seen : List Sym) (s : Sym) → is_identifier s ≡ true → IsIn s (with_place seen s)
place_new seen s h = go (is_identifier s) h (has_symbol seen s) refl
  where
    go : (a : Bool) → a ≡ true → (b : Bool) → has_symbol seen s ≡ b → IsIn s (cond a (cond b seen (seen ++ s ∷ [])) seen)
    go true p true q = let found = any_some (symbol_eq s) seen q in subst (λ x. IsIn x seen) (sym (symbol_same s found.0 found.2)) found.1
    go true p false q = in_right s seen (s ∷ []) (inl refl)
    go false p b q = absurd (cc)

pub place_from : (seen : List Sym) (s t : Sym) → IsIn t (with_place seen s) → IsIn t seen ⊎ ((s ≡ t) × (is_identifier t ≡ true))
place_from seen s t i = go (is_identifier s) refl (has_symbol seen s) i
  where
    go : (a : Bool) → is_identifier s ≡ a → (b : Bool) → IsIn t (cond a (cond b seen (seen ++ s ∷ [])) seen) → IsIn t seen ⊎ ((s ≡ t) × (is_identifier t ≡ true))
    go true p true j = inl j
    go true p false j = elim (in_append t seen (s ∷ []) j) [ inl k ↦ inl k | inr k ↦ elim k [ inl e ↦ inr (e, ap is_identifier (sym e) ∙ p) | inr l ↦ absurd l ] ]
    go false p b j = inl j

-- each identifier in front has its variable
abbrev pub Covers : List Sym → List Sym → Type 0
Covers front seen = (t : Sym) → IsIn t front → is_identifier t ≡ true → IsIn t seen

pub covers_more : (front seen : List Sym) (s : Sym) → Covers front seen → Covers (front ++ s ∷ []) (with_place seen s)
covers_more front seen s h t i k =
    elim (in_append t front (s ∷ []) i) [
      | inl j ↦ place_kept seen s t (h t j k)
      | inr j ↦ elim j [ inl e ↦ subst (λ x. IsIn x (with_place seen s)) e (place_new seen s (ap is_identifier e ∙ k)) | inr l ↦ absurd l ]
    ]

-- ---- fields

module _ (variablized : List Variablized) (placed : List Placed) (all : List Sym)
    (own : (t : Sym) → IsIn t all → is_identifier t ≡ true → IsIn (of_identifier t) variablized) (well : (p : Placed) → IsIn p placed → IsPlaced all p) where
  slots_more : (seen : List Sym) (s : Sym) → IsIn s all → HaveSlots variablized seen → HaveSlots variablized (with_place seen s)
  slots_more seen s i h t j =
      elim (place_from seen s t j) [
        | inl k ↦ h t k
        | inr k ↦ subst (λ x. IsIn (of_identifier x) variablized) k.0 (own s i (ap is_identifier k.0 ∙ k.1))
      ]

  middle : (front back : List Sym) (s : Sym) → all ≡ front ++ s ∷ back → IsIn s all
  middle front back s h = subst (λ l. IsIn s l) (sym h) (in_right s front (s ∷ back) (inl refl))

  tests_fit : (front back seen : List Sym) (s : Sym) (n : ℕ) → all ≡ front ++ s ∷ back → length front ≡ n → Covers front seen → AllHold (with_place seen s) s (tests_here placed n)
  tests_fit front back seen s n parts place covers p i =
      let among = filter_within (λ p. p.at == n) placed p i in
      let good = well p among.0 in
      let at_n : p.at ≡ n = same_number p.at n among.1 in
      let same = one_symbol all front back good.here.front good.here.back s good.symbol parts good.here.parts (good.here.place ∙ at_n ∙ sym place) in
      record {
        stands = subst (λ x. stands p.relation x p.right ≡ true) same.1 good.stands;
        bound = λ k. covers_more front seen s covers p.right (subst (λ l. IsIn p.right l) (λ j. same.0 j ++ same.1 j ∷ []) (good.known k)) k;
      }

  field_fits : (front back seen : List Sym) (s : Sym) (n : ℕ) → all ≡ front ++ s ∷ back → length front ≡ n → Covers front seen → HaveSlots variablized seen → FieldFits variablized placed n seen s
  field_fits front back seen s n parts place covers h = record {
    slots_are = slots_more seen s (middle front back s parts) h;
    slot = own s (middle front back s parts);
    tests = tests_fit front back seen s n parts place covers;
  }

  length_push : (front : List Sym) (s : Sym) (n : ℕ) → length front ≡ n → length (front ++ s ∷ []) ≡ n + 1
  length_push front s n h = length_more front ∙ ap (λ k. k + 1) h
    where
      length_more : (front : List Sym) → length (front ++ s ∷ []) ≡ length front + 1
      length_more [] = omega arith
      length_more (t ∷ front) = omega (arith, length_more front)

  -- ---- elements

  pub elements_fit : (elements : List Element) (front seen : List Sym) (first : ℕ) → all ≡ front ++ symbols_of elements → length front ≡ first → Covers front seen → HaveSlots variablized seen
      → ElementsFit variablized placed first seen elements
  elements_fit [] front seen first parts place covers h = tt
  elements_fit (e ∷ elements) front seen first parts place covers h =
      let in_id = with_place seen e.id in
      let in_attr = with_place in_id e.attr in
      let front_id : List Sym = front ++ e.id ∷ [] in
      let front_attr : List Sym = front_id ++ e.attr ∷ [] in
      let front_value : List Sym = front_attr ++ e.value ∷ [] in
      let parts_attr : all ≡ front_id ++ e.attr ∷ e.value ∷ symbols_of elements = parts ∙ sym (append_assoc front (e.id ∷ []) (e.attr ∷ e.value ∷ symbols_of elements)) in
      let parts_value : all ≡ front_attr ++ e.value ∷ symbols_of elements = parts_attr ∙ sym (append_assoc front_id (e.attr ∷ []) (e.value ∷ symbols_of elements)) in
      let parts_rest : all ≡ front_value ++ symbols_of elements = parts_value ∙ sym (append_assoc front_attr (e.value ∷ []) (symbols_of elements)) in
      let place_attr = length_push front e.id first place in
      let place_value : length front_attr ≡ first + 2 = length_push front_id e.attr (first + 1) place_attr ∙ two first in
      let place_rest : length front_value ≡ first + 3 = length_push front_attr e.value (first + 2) place_value ∙ three first in
      let covers_id = covers_more front seen e.id covers in
      let covers_attr = covers_more front_id in_id e.attr covers_id in
      let id = field_fits front (e.attr ∷ e.value ∷ symbols_of elements) seen e.id first parts place covers h in
      let attr = field_fits front_id (e.value ∷ symbols_of elements) in_id e.attr (first + 1) parts_attr place_attr covers_id id.slots_are in
      let value = field_fits front_attr (symbols_of elements) in_attr e.value (first + 2) parts_value place_value covers_attr attr.slots_are in (
        record { id = id; attr = attr; value = value },
        elements_fit elements front_value (places_with seen e) (first + 3) parts_rest place_rest (covers_more front_attr in_attr e.value covers_attr) value.slots_are,
      )
    where
      two : (n : ℕ) → (n + 1) + 1 ≡ n + 2
      two n = omega arith

      three : (n : ℕ) → (n + 2) + 1 ≡ n + 3
      three n = omega arith

  -- from the first condition on
  pub all_fit : (elements : List Element) → all ≡ symbols_of elements → ElementsFit variablized placed 0 [] elements
  all_fit elements h = elements_fit elements [] [] 0 h refl (λ t i k. absurd i) (λ s i. absurd i)

-- ---- after all

-- what has a variable stands in the elements, and each identifier in them has one
pub places_from : (seen : List Sym) (elements : List Element) (t : Sym) → IsIn t (places_after seen elements) → IsIn t seen ⊎ IsIn t (symbols_of elements)
places_from seen [] t i = inl i
places_from seen (e ∷ elements) t i = go (places_from (places_with seen e) elements t i)
  where
    in_attr : List Sym
    in_attr = with_place (with_place seen e.id) e.attr

    go : IsIn t (places_with seen e) ⊎ IsIn t (symbols_of elements) → IsIn t seen ⊎ IsIn t (e.id ∷ e.attr ∷ e.value ∷ symbols_of elements)
    go (inr j) = inr (inr (inr (inr j)))
    go (inl j) =
        elim (place_from (with_place (with_place seen e.id) e.attr) e.value t j) [
          | inr k ↦ inr (inr (inr (inl k.0)))
          | inl k ↦ elim (place_from (with_place seen e.id) e.attr t k) [
            | inr l ↦ inr (inr (inl l.0))
            | inl l ↦ elim (place_from seen e.id t l) [ inr m ↦ inr (inl m.0) | inl m ↦ inl m ]
          ]
        ]

pub places_keep : (seen : List Sym) (elements : List Element) (t : Sym) → IsIn t seen → IsIn t (places_after seen elements)
places_keep seen [] t i = i
places_keep seen (e ∷ elements) t i =
    places_keep (places_with seen e) elements t
    (place_kept (with_place (with_place seen e.id) e.attr) e.value t (place_kept (with_place seen e.id) e.attr t (place_kept seen e.id t i)))

pub places_hold : (seen : List Sym) (elements : List Element) → Covers (symbols_of elements) (places_after seen elements)
places_hold seen [] t i k = absurd i
places_hold seen (e ∷ elements) t (inl q) k =
    places_keep (places_with seen e) elements t
    (place_kept (with_place (with_place seen e.id) e.attr) e.value t (place_kept (with_place seen e.id) e.attr t (subst (λ x. IsIn x (with_place seen e.id)) q (place_new seen e.id (ap is_identifier q ∙ k)))))
places_hold seen (e ∷ elements) t (inr (inl q)) k =
    places_keep (places_with seen e) elements t
    (place_kept (with_place (with_place seen e.id) e.attr) e.value t
    (subst (λ x. IsIn x (with_place (with_place seen e.id) e.attr)) q (place_new (with_place seen e.id) e.attr (ap is_identifier q ∙ k))))
places_hold seen (e ∷ elements) t (inr (inr (inl q))) k =
    places_keep (places_with seen e) elements t (subst (λ x. IsIn x (places_with seen e)) q (place_new (with_place (with_place seen e.id) e.attr) e.value (ap is_identifier q ∙ k)))
places_hold seen (e ∷ elements) t (inr (inr (inr i))) k = places_hold (places_with seen e) elements t i k
