-- The walk finds the least ground of those whose identifier has a variable.
use Rattle.std.proofs.Common.{◌≡◌, refl, sym, ◌∙◌, ap, ap₂, ℕ, Bool, true, false, cond, List, [], ◌∷◌, filter, Option, Some, None}
use Rattle.std.specs.Option.{option_map}
use Rattle.std.specs.Ordering.{nat_cmp, bool_cmp, ordering_then, is_lt}
use Rattle.std.specs.declared.cmp.Ordering.{Ordering}
use Rattle.std.specs.declared.cmp.Ordering.TheVariants.{Less, Equal, Greater}
use Rattle.soar_sym.specs.Order.{symbol_cmp}
use Rattle.soar_sym.specs.Words.{Texts}
use Rattle.soar_sym.specs.declared.symbol.Sym.{Sym}
use Rattle.soar_wm.specs.declared.element.Element.{Element}
use Rattle.condition_order.specs.declared.comparing.Reached.{Reached}
use Rattle.condition_order.specs.Reaching.{least_reached, reached_cmp, with_reached}
use Rattle.defs_soar.specs.ConditionOrder.{Ordered, ground_cmp, least_ground, one_ground_more, option_cmp, value_cmp, variable_place, with_ground, with_next}
use Rattle.defs_soar.specs.Sorted.{has_symbol}
use Rattle.condition_order.proofs.PlaceLemmas.{has_place}
use Rattle.std.specs.Prelude.{is_some}

then_then : (x y z : Ordering) → ordering_then x (ordering_then y z) ≡ ordering_then (ordering_then x y) z
then_then Less y z = refl
then_then Equal y z = refl
then_then Greater y z = refl

abbrev pub element_of : Option Reached → Option Element
element_of least = option_map (λ (r : Reached). r.element) least

-- the least of these, where there is one
abbrev pub least_of : Texts → List Sym → List Element → Option Element
least_of words places [] = None
least_of words places (e ∷ elements) = Some (least_ground words places e elements)

module _ (words : Texts) (places : List Sym) where
  abbrev has_variable : Element → Bool
  has_variable e = has_symbol places e.id

  has_none : (e : Element) → variable_place places e.id ≡ None → has_variable e ≡ false
  has_none e q = sym (has_place places e.id) ∙ ap is_some q

  has_one : (e : Element) (n : ℕ) → variable_place places e.id ≡ Some n → has_variable e ≡ true
  has_one e n q = sym (has_place places e.id) ∙ ap is_some q

  compared : (a b : Reached) → variable_place places a.element.id ≡ Some a.at → variable_place places b.element.id ≡ Some b.at
      → ground_cmp words places a.element b.element ≡ reached_cmp words places a b
  compared a b p q =
      let attributes = symbol_cmp words a.element.attr b.element.attr in
      let behind = ordering_then (value_cmp words places a.element b.element) (bool_cmp a.element.accept b.element.accept) in
      ap₂ (λ n m. ordering_then (option_cmp n m) (ordering_then attributes behind)) p q ∙ then_then (nat_cmp a.at b.at) attributes behind

  chosen : (b : Bool) (f r : Reached) → variable_place places f.element.id ≡ Some f.at → variable_place places r.element.id ≡ Some r.at
      → variable_place places (cond b f r).element.id ≡ Some (cond b f r).at
  chosen true f r p q = p
  chosen false f r p q = q

  chosen_element : (b : Bool) (f r : Reached) → (cond b f r).element ≡ cond b f.element r.element
  chosen_element true f r = refl
  chosen_element false f r = refl

  least_from : (r : Reached) (elements : List Element) → variable_place places r.element.id ≡ Some r.at
      → element_of (least_reached words places (Some r) elements) ≡ Some (least_ground words places r.element (filter has_variable elements))
  least_from r [] h = refl
  least_from r (e ∷ elements) h = go (variable_place places e.id) refl (λ s k. least_from s elements k)
    where
      go : (p : Option ℕ) → variable_place places e.id ≡ p
          → ((s : Reached) → variable_place places s.element.id ≡ Some s.at → element_of (least_reached words places (Some s) elements) ≡ Some (least_ground words places s.element (filter has_variable elements)))
          → element_of (least_reached words places (with_reached words places (Some r) e p) elements) ≡ Some (least_ground words places r.element (cond (has_variable e) (e ∷ filter has_variable elements) (filter has_variable elements)))
      go None q later =
          later r h ∙ ap (λ b. Some (least_ground words places r.element (cond b (e ∷ filter has_variable elements) (filter has_variable elements)))) (sym (has_none e q))
      go (Some n) q later =
          let f : Reached = record { at = n; element = e } in
          let less = is_lt (reached_cmp words places f r) in
          later (cond less f r) (chosen less f r q h)
          ∙ ap (λ g. Some (least_ground words places g (filter has_variable elements))) (chosen_element less f r ∙ ap (λ o. cond (is_lt o) e r.element) (sym (compared f r q h)))
          ∙ ap (λ b. Some (least_ground words places r.element (cond b (e ∷ filter has_variable elements) (filter has_variable elements)))) (sym (has_one e n q))

  pub least_is : (elements : List Element) → element_of (least_reached words places None elements) ≡ least_of words places (filter has_variable elements)
  least_is [] = refl
  least_is (e ∷ elements) = go (variable_place places e.id) refl (least_is elements)
    where
      go : (p : Option ℕ) → variable_place places e.id ≡ p → element_of (least_reached words places None elements) ≡ least_of words places (filter has_variable elements)
          → element_of (least_reached words places (with_reached words places None e p) elements) ≡ least_of words places (cond (has_variable e) (e ∷ filter has_variable elements) (filter has_variable elements))
      go None q later = later ∙ ap (λ b. least_of words places (cond b (e ∷ filter has_variable elements) (filter has_variable elements))) (sym (has_none e q))
      go (Some n) q later =
          least_from (record { at = n; element = e }) elements q
          ∙ ap (λ b. least_of words places (cond b (e ∷ filter has_variable elements) (filter has_variable elements))) (sym (has_one e n q))

-- ---- the step

abbrev pub taken_next : Ordered → Option Element → Ordered
taken_next o None = o
taken_next o (Some e) = with_ground o e

next_of : (words : Texts) (o : Ordered) (elements : List Element) → with_next words o elements ≡ taken_next o (least_of words o.places elements)
next_of words o [] = refl
next_of words o (e ∷ elements) = refl

pub next_is : (words : Texts) (o : Ordered) → one_ground_more words o ≡ taken_next o (element_of (least_reached words o.places None o.left))
next_is words o = next_of words o (filter (λ e. has_symbol o.places e.id) o.left) ∙ ap (taken_next o) (sym (least_is words o.places o.left))

pub next_some : (words : Texts) (o : Ordered) (r : Reached) → Some r ≡ least_reached words o.places None o.left → one_ground_more words o ≡ with_ground o r.element
next_some words o r e = next_is words o ∙ ap (λ l. taken_next o (element_of l)) (sym e)

pub next_none : (words : Texts) (o : Ordered) → None ≡ least_reached words o.places None o.left → one_ground_more words o ≡ o
next_none words o e = next_is words o ∙ ap (λ l. taken_next o (element_of l)) (sym e)
