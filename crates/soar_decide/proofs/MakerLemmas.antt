-- The maker of a marked element, found over the rows of the operator slot.
use Rattle.std.proofs.Common.{◌≡◌, ℕ, Bool, true, false, ◌&&◌, cond, min, List, [], ◌∷◌, map, filter, Some, None, refl}
use Rattle.soar_sym.specs.Equality.{symbol_eq}
use Rattle.soar_sym.specs.declared.symbol.Sym.{Sym}
use Rattle.soar_wm.specs.declared.element.Element.{Element}
use Rattle.defs_soar.specs.declared.preference.Preference.{Preference}
use Rattle.defs_soar.specs.Architecture.{operator_word}
use Rattle.defs_soar.specs.Uses.{least_from, least_number, maker_of, makes_element, marked_element}
use Rattle.soar_decide.specs.Makers.{least_maker, least_maker_from, makes_marked, number_found}
use Rattle.soar_decide.specs.Outcomes.{operator_rows}

module _ (goal operator : Sym) (tag : ℕ) where
  abbrev marked : Element
  marked = marked_element goal operator tag

  abbrev makers : List Preference → List ℕ
  makers rows = map (λ row. row.firing) (filter (makes_element marked) rows)

  least_after : (found : ℕ) (rows : List Preference) → number_found (least_maker_from (Some found) operator (operator_rows rows goal)) ≡ least_from found (makers rows)
  least_after found [] = refl
  least_after found (row ∷ rows) = go (λ n. least_after n rows) (symbol_eq row.wish.id goal) (symbol_eq row.wish.attr operator_word)
    where
      within : ((n : ℕ) → number_found (least_maker_from (Some n) operator (operator_rows rows goal)) ≡ least_from n (makers rows)) → (m : Bool) → number_found (least_maker_from (cond m (Some (min found row.firing)) (Some found)) operator (operator_rows rows goal))
          ≡ least_from found (map (λ (r : Preference). r.firing) (cond m (row ∷ filter (makes_element marked) rows) (filter (makes_element marked) rows)))
      within rest true = rest (min found row.firing)
      within rest false = rest found

      go : ((n : ℕ) → number_found (least_maker_from (Some n) operator (operator_rows rows goal)) ≡ least_from n (makers rows)) → (a b : Bool) → number_found (least_maker_from (Some found) operator (cond (a && b) (row ∷ operator_rows rows goal) (operator_rows rows goal)))
          ≡ least_from found (map (λ (r : Preference). r.firing) (cond (a && (b && makes_marked operator row)) (row ∷ filter (makes_element marked) rows) (filter (makes_element marked) rows)))
      go rest true true = within rest (makes_marked operator row)
      go rest true false = rest found
      go rest false b = rest found

  least_of_all : (rows : List Preference) → number_found (least_maker_from None operator (operator_rows rows goal)) ≡ least_number (makers rows)
  least_of_all [] = refl
  least_of_all (row ∷ rows) = go (least_of_all rows) (symbol_eq row.wish.id goal) (symbol_eq row.wish.attr operator_word)
    where
      within : number_found (least_maker_from None operator (operator_rows rows goal)) ≡ least_number (makers rows) → (m : Bool) → number_found (least_maker_from (cond m (Some row.firing) None) operator (operator_rows rows goal))
          ≡ least_number (map (λ (r : Preference). r.firing) (cond m (row ∷ filter (makes_element marked) rows) (filter (makes_element marked) rows)))
      within rest true = least_after row.firing rows
      within rest false = rest

      go : number_found (least_maker_from None operator (operator_rows rows goal)) ≡ least_number (makers rows) → (a b : Bool) → number_found (least_maker_from None operator (cond (a && b) (row ∷ operator_rows rows goal) (operator_rows rows goal)))
          ≡ least_number (map (λ (r : Preference). r.firing) (cond (a && (b && makes_marked operator row)) (row ∷ filter (makes_element marked) rows) (filter (makes_element marked) rows)))
      go rest true true = within rest (makes_marked operator row)
      go rest true false = rest
      go rest false b = rest

pub maker_is : (goal operator : Sym) (tag : ℕ) (rows : List Preference) → least_maker operator (operator_rows rows goal) ≡ maker_of rows (marked_element goal operator tag)
maker_is goal operator tag rows = least_of_all goal operator tag rows
