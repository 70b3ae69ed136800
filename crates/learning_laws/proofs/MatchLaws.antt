-- Grounds in the order of a learned rule's conditions are a row of its positive conditions, and its negations keep that row.
use Rattle.std.proofs.Common.{◌≡◌, refl, sym, ◌∙◌, ap, subst, ℕ, ◌+◌, Bool, true, false, ◌||◌, ◌==◌, cond, inl, inr, List, [], ◌∷◌, ◌++◌, map, flat_map, filter, Option, Some, None, option_and_then, append_assoc}
use Rattle.std.proofs.lemmas.List.{append-nil}
use Rattle.std.specs.Prelude.{not}
use Rattle.soar_sym.specs.Equality.{mark_eq}
use Rattle.soar_sym.specs.declared.symbol.Sym.{Sym}
use Rattle.soar_rule.specs.declared.cond.Atom.{Atom}
use Rattle.soar_rule.specs.declared.cond.Atom.TheVariants.{Const}
use Rattle.soar_rule.specs.declared.cond.Pattern.{Pattern}
use Rattle.soar_rule.specs.declared.cond.Test.TheVariants.{Plain}
use Rattle.soar_rule.specs.Conditions.{Condition, positive, negated, conjunctive, all_of}
use Rattle.soar_rule.specs.Renaming.{test_with, pattern_with, condition_with, conditions_with}
use Rattle.soar_wm.specs.declared.element.Element.{Element}
use Rattle.defs_match.specs.Rows.{Row, takes_marks, bindings_at, with_matched, by_element, extend, only_without, rows_with, rows_from}
use Rattle.defs_match.specs.Testing.{Bindings, passes}
use Rattle.defs_soar.specs.Candidate.{conditions_from, with_variables}
use Rattle.defs_soar.specs.CarriedTests.{Placed}
use Rattle.defs_soar.specs.ConditionOrder.{with_place}
use Rattle.defs_soar.specs.Laws.{IsIn}
use Rattle.defs_soar.specs.Variablized.{Variablized, of_identifier}
use Rattle.defs_soar.specs.Values.{is_identifier}
use Rattle.learning_laws.proofs.FieldLaws.{AllHold, as_test, bindings_for, field_passes, HaveSlots}
use Rattle.learning_laws.proofs.Lists.{in_flat_mapped, and_true, same_mark}

abbrev pub tests_here : List Placed → ℕ → List Placed
tests_here placed n = filter (λ p. p.at == n) placed

-- the identifiers that have a variable after an element
abbrev pub places_with : List Sym → Element → List Sym
places_with seen e = with_place (with_place (with_place seen e.id) e.attr) e.value

abbrev pub places_after : List Sym → List Element → List Sym
places_after seen [] = seen
places_after seen (e ∷ elements) = places_after (places_with seen e) elements

-- what a field needs to pass: its identifiers have numbers of their own, and the tests put there hold
pub record FieldFits (variablized : List Variablized) (placed : List Placed) (n : ℕ) (seen : List Sym) (s : Sym) : Type 0 where
  pub slots_are : HaveSlots variablized (with_place seen s)
  pub slot : is_identifier s ≡ true → IsIn (of_identifier s) variablized
  pub tests : AllHold (with_place seen s) s (tests_here placed n)

pub record ElementFits (variablized : List Variablized) (placed : List Placed) (first : ℕ) (seen : List Sym) (e : Element) : Type 0 where
  pub id : FieldFits variablized placed first seen e.id
  pub attr : FieldFits variablized placed (first + 1) (with_place seen e.id) e.attr
  pub value : FieldFits variablized placed (first + 2) (with_place (with_place seen e.id) e.attr) e.value

abbrev pub ElementsFit : List Variablized → List Placed → ℕ → List Sym → List Element → Type 0
ElementsFit variablized placed first seen [] = Unit {0}
ElementsFit variablized placed first seen (e ∷ elements) = ElementFits variablized placed first seen e × ElementsFit variablized placed (first + 3) (places_with seen e) elements

module _ (variablized : List Variablized) (placed : List Placed) (w : List Element) where
  abbrev F : Atom → Atom
  F = with_variables true variablized

  abbrev pub pattern_for : ℕ → Element → Pattern
  pattern_for first e = record {
    state = e.of_state;
    id = record { tests = map (test_with F) (Plain (Const e.id) ∷ map as_test (tests_here placed first)) };
    attr = record { tests = map (test_with F) (Plain (Const e.attr) ∷ map as_test (tests_here placed (first + 1))) };
    value = record { tests = map (test_with F) (Plain (Const e.value) ∷ map as_test (tests_here placed (first + 2))) };
    accept = e.accept;
  }

  marks_fit : (first : ℕ) (e : Element) → takes_marks (pattern_for first e) e ≡ true
  marks_fit first e = and_true (mark_eq e.accept e.accept) (not e.of_state || e.of_state) (same_mark e.accept) (either e.of_state)
    where
      either : (b : Bool) → (not b || b) ≡ true
      either true = refl
      either false = refl

  element_passes : (first : ℕ) (seen : List Sym) (e : Element) → HaveSlots variablized seen → ElementFits variablized placed first seen e
      → bindings_at (pattern_for first e) e (bindings_for variablized seen) ≡ Some (bindings_for variablized (places_with seen e))
  element_passes first seen e h fits =
      let in_id = with_place seen e.id in
      let in_attr = with_place in_id e.attr in
      let id_passes = field_passes variablized seen e.id (tests_here placed first) h fits.id.slots_are fits.id.slot fits.id.tests in
      let attr_passes = field_passes variablized in_id e.attr (tests_here placed (first + 1)) fits.id.slots_are fits.attr.slots_are fits.attr.slot fits.attr.tests in
      let value_passes = field_passes variablized in_attr e.value (tests_here placed (first + 2)) fits.attr.slots_are fits.value.slots_are fits.value.slot fits.value.tests in
      ap (λ o. option_and_then (passes (pattern_for first e).value.tests e.value) (option_and_then (passes (pattern_for first e).attr.tests e.attr) o)) id_passes
      ∙ ap (option_and_then (passes (pattern_for first e).value.tests e.value)) attr_passes ∙ value_passes

  row_extends : (first : ℕ) (seen : List Sym) (e : Element) (r : Row) → r.bindings ≡ bindings_for variablized seen → HaveSlots variablized seen → ElementFits variablized placed first seen e → IsIn e w
      → IsIn (record { tags = r.tags ++ e.tag ∷ []; bindings = bindings_for variablized (places_with seen e) }) (extend (pattern_for first e) w r)
  row_extends first seen e r b h fits i =
      in_flat_mapped (by_element (pattern_for first e) r) e (record { tags = r.tags ++ e.tag ∷ []; bindings = bindings_for variablized (places_with seen e) }) w i
      (by (takes_marks (pattern_for first e) e) (marks_fit first e) (bindings_at (pattern_for first e) e r.bindings)
      (ap (bindings_at (pattern_for first e) e) b ∙ element_passes first seen e h fits))
    where
      by : (t : Bool) → t ≡ true → (o : Option Bindings) → o ≡ Some (bindings_for variablized (places_with seen e))
          → IsIn (record { tags = r.tags ++ e.tag ∷ []; bindings = bindings_for variablized (places_with seen e) }) (cond t (with_matched r e o) [])
      by true q None k = absurd (cc)
      by true q (Some bs) k =
          let same : bs ≡ bindings_for variablized (places_with seen e) = cc in inl (λ j. record { tags = r.tags ++ e.tag ∷ []; bindings = same j })
      by false q o k = absurd (cc)

  -- the row of all elements, and what further conditions make of it
  pub walk :
      (elements : List Element) (first : ℕ) (seen : List Sym) (r z : Row) (rs : List Row) (more : List Condition) → r.bindings ≡ bindings_for variablized seen → HaveSlots variablized seen
      → ElementsFit variablized placed first seen elements → ((e : Element) → IsIn e elements → IsIn e w) → IsIn r rs
      → ((rows : List Row) → IsIn (record { tags = r.tags ++ map (λ e. e.tag) elements; bindings = bindings_for variablized (places_after seen elements) }) rows → IsIn z (rows_from (conditions_with F (all_of more)) w rows))
      → IsIn z (rows_from (conditions_with F (all_of (conditions_from placed first elements ++ more))) w rs)
  walk [] first seen r z rs more b h fits within i next =
      let tags = append-nil r.tags in next rs (subst (λ x. IsIn x rs) (λ j. record { tags = sym tags j; bindings = b j }) i)
  walk (e ∷ elements) first seen r z rs more b h fits within i next =
      let x : Row = record { tags = r.tags ++ e.tag ∷ []; bindings = bindings_for variablized (places_with seen e) } in
      walk elements (first + 3) (places_with seen e) x z (flat_map (extend (pattern_for first e) w) rs) more refl fits.0.value.slots_are fits.1 (λ f j. within f (inr j))
      (in_flat_mapped (extend (pattern_for first e) w) r x rs i (row_extends first seen e r b h fits.0 (within e (inl refl))))
      (λ rows j. next rows
      (subst (λ tags. IsIn (record { tags = tags; bindings = bindings_for variablized (places_after (places_with seen e) elements) }) rows) (append_assoc r.tags (e.tag ∷ []) (map (λ e. e.tag) elements)) j))

  -- ---- negations

  -- a negation without rows of its inside keeps the row
  abbrev pub Keeps : Row → Condition → Type 0
  Keeps z (positive p) = ⊥
  Keeps z (negated p) = extend (pattern_with F p) w z ≡ []
  Keeps z (conjunctive cs) = rows_from (conditions_with F cs) w (z ∷ []) ≡ []

  only_one : (z : Row) (rs : List Row) → rs ≡ [] → IsIn z (only_without z rs)
  only_one z [] h = inl refl
  only_one z (x ∷ rs) h = absurd (cc)

  kept_by : (z : Row) (d : Condition) → Keeps z d → IsIn z (rows_with (condition_with F d) w z)
  kept_by z (positive p) k = absurd k
  kept_by z (negated p) k = only_one z (extend (pattern_with F p) w z) k
  kept_by z (conjunctive cs) k = only_one z (rows_from (conditions_with F cs) w (z ∷ [])) k

  pub kept_through : (z : Row) (ds : List Condition) (rs : List Row) → ((d : Condition) → IsIn d ds → Keeps z d) → IsIn z rs → IsIn z (rows_from (conditions_with F (all_of ds)) w rs)
  kept_through z [] rs k i = i
  kept_through z (d ∷ ds) rs k i =
      kept_through z ds (flat_map (rows_with (condition_with F d) w) rs) (λ e j. k e (inr j)) (in_flat_mapped (rows_with (condition_with F d) w) z z rs i (kept_by z d (k d (inl refl))))
