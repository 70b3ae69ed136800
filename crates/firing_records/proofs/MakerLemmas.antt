-- The maker of an element, found over the rows of its slot.
use Rattle.std.proofs.Common.{◌≡◌, ℕ, Bool, true, false, ◌&&◌, cond, min, List, [], ◌∷◌, map, filter, Option, Some, None, refl, ap}
use Rattle.soar_sym.specs.Equality.{symbol_eq}
use Rattle.soar_wm.specs.declared.element.Element.{Element}
use Rattle.defs_soar.specs.declared.preference.Preference.{Preference}
use Rattle.defs_soar.specs.Preferences.{slot_of}
use Rattle.defs_soar.specs.Uses.{least_from, least_number, maker_of, makes_element}
use Rattle.firing_records.specs.Makers.{least_maker}

-- the number that was found, 0 without one
abbrev pub number_found : Option ℕ → ℕ
number_found None = 0
number_found (Some n) = n

module _ (e : Element) where
  abbrev makers : List Preference → List ℕ
  makers rows = map (λ row. row.firing) (filter (makes_element e) rows)

  least_after : (found : ℕ) (rows : List Preference) → number_found (least_maker (Some found) e rows) ≡ least_from found (makers rows)
  least_after found [] = refl
  least_after found (row ∷ rows) = by (λ n. least_after n rows) (makes_element e row)
    where
      by : ((n : ℕ) → number_found (least_maker (Some n) e rows) ≡ least_from n (makers rows)) → (m : Bool)
          → number_found (least_maker (cond m (Some (min found row.firing)) (Some found)) e rows)
          ≡ least_from found (map (λ (r : Preference). r.firing) (cond m (row ∷ filter (makes_element e) rows) (filter (makes_element e) rows)))
      by rest true = rest (min found row.firing)
      by rest false = rest found

  pub least_of_all : (rows : List Preference) → number_found (least_maker None e rows) ≡ maker_of rows e
  least_of_all [] = refl
  least_of_all (row ∷ rows) = by (least_of_all rows) (makes_element e row)
    where
      by : number_found (least_maker None e rows) ≡ maker_of rows e → (m : Bool)
          → number_found (least_maker (cond m (Some row.firing) None) e rows)
          ≡ least_number (map (λ (r : Preference). r.firing) (cond m (row ∷ filter (makes_element e) rows) (filter (makes_element e) rows)))
      by rest true = least_after row.firing rows
      by rest false = rest

  makers_in_slot : (rows : List Preference) → makers (slot_of rows e.id e.attr) ≡ makers rows
  makers_in_slot [] = refl
  makers_in_slot (row ∷ rows) = by (symbol_eq row.wish.id e.id) refl (symbol_eq row.wish.attr e.attr) refl (makers_in_slot rows)
    where
      by : (a : Bool) → symbol_eq row.wish.id e.id ≡ a → (b : Bool) → symbol_eq row.wish.attr e.attr ≡ b → makers (slot_of rows e.id e.attr) ≡ makers rows
          → makers (cond (a && b) (row ∷ slot_of rows e.id e.attr) (slot_of rows e.id e.attr)) ≡ makers (row ∷ rows)
      by true p true q rest = within (makes_element e row)
        where
          within : (m : Bool) → map (λ (r : Preference). r.firing) (cond m (row ∷ filter (makes_element e) (slot_of rows e.id e.attr)) (filter (makes_element e) (slot_of rows e.id e.attr)))
              ≡ map (λ (r : Preference). r.firing) (cond m (row ∷ filter (makes_element e) rows) (filter (makes_element e) rows))
          within true = ap (λ l. row.firing ∷ l) rest
          within false = rest
      by true p false q rest = rw (p, q) rest
      by false p b q rest = rw p rest

pub maker_in_slot : (rows : List Preference) (e : Element) → maker_of (slot_of rows e.id e.attr) e ≡ maker_of rows e
maker_in_slot rows e = ap least_number (makers_in_slot e rows)
