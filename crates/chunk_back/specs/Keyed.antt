-- Elements under keys, in the order of the keys.
use Rattle.std.specs.Prelude.{◌≡◌, ℕ, List, [], ◌∷◌, map}
use Rattle.std.specs.List.Sorted.{IsStrictlySortedBy}
use Rattle.std.specs.Ordering.{nat_cmp}
use Rattle.soar_wm.specs.declared.element.Element.{Element}

-- each stands under its own key
abbrev pub HaveOwnKeys : {K V X : Type 0} → (X → K) → (K × V → X) → List (K × V) → Type 0
HaveOwnKeys key seen [] = Unit {0}
HaveOwnKeys key seen (e ∷ entries) = (e.0 ≡ key (seen e)) × HaveOwnKeys key seen entries

-- ---- by tag

abbrev pub element_in : ℕ × Element → Element
element_in e = e.1

abbrev pub tag_key : Element → ℕ
tag_key e = e.tag

abbrev pub elements_in : List (ℕ × Element) → List Element
elements_in entries = map element_in entries

pub record IsTagged (entries : List (ℕ × Element)) : Type 0 where
  pub own_keys : HaveOwnKeys tag_key element_in entries
  pub in_order : IsStrictlySortedBy nat_cmp (map (λ e. e.0) entries)
