-- Masks at their places.
use Rattle.std.proofs.Common.{◌≡◌, refl, sym, ap, subst, ◌∙◌, Bool, true, false, cond, ℕ, zero, suc, ◌+◌, ◌<◌, List, ◌∷◌, length, drop, take, slice_index_or, Option, None, arith}
use Rattle.soar_wm.specs.declared.element.Element.{Element}
use Rattle.rete_alpha.specs.declared.pattern.ConstPattern.{ConstPattern}
use Rattle.rete_alpha.specs.Shapes.{shape, weight, IsShaped}
use Rattle.rete_alpha.specs.Taking.{mask_at, masks, all_masks}

-- the bits of a place, and the mark, are the shape
shape_at : (e : Element) (place : ℕ) → place < 16 → shape (mask_at e place) ≡ weight 16 e.accept + place
shape_at e zero within = omega arith
shape_at e (suc zero) within = omega arith
shape_at e (suc (suc zero)) within = omega arith
shape_at e (suc (suc (suc zero))) within = omega arith
shape_at e (suc (suc (suc (suc zero)))) within = omega arith
shape_at e (suc (suc (suc (suc (suc zero))))) within = omega arith
shape_at e (suc (suc (suc (suc (suc (suc zero)))))) within = omega arith
shape_at e (suc (suc (suc (suc (suc (suc (suc zero))))))) within = omega arith
shape_at e (suc (suc (suc (suc (suc (suc (suc (suc zero)))))))) within = omega arith
shape_at e (suc (suc (suc (suc (suc (suc (suc (suc (suc zero))))))))) within = omega arith
shape_at e (suc (suc (suc (suc (suc (suc (suc (suc (suc (suc zero)))))))))) within = omega arith
shape_at e (suc (suc (suc (suc (suc (suc (suc (suc (suc (suc (suc zero))))))))))) within = omega arith
shape_at e (suc (suc (suc (suc (suc (suc (suc (suc (suc (suc (suc (suc zero)))))))))))) within = omega arith
shape_at e (suc (suc (suc (suc (suc (suc (suc (suc (suc (suc (suc (suc (suc zero))))))))))))) within = omega arith
shape_at e (suc (suc (suc (suc (suc (suc (suc (suc (suc (suc (suc (suc (suc (suc zero)))))))))))))) within = omega arith
shape_at e (suc (suc (suc (suc (suc (suc (suc (suc (suc (suc (suc (suc (suc (suc (suc zero))))))))))))))) within = omega arith
shape_at e (suc (suc (suc (suc (suc (suc (suc (suc (suc (suc (suc (suc (suc (suc (suc (suc place)))))))))))))))) within = absurd (omega (arith, within))

-- a mask whose shape was not noted has no number
pub unnoted : (number : ConstPattern → Option ℕ) (shapes : List Bool) (e : Element) (place mark : ℕ) → IsShaped number shapes → place < 16 → mark ≡ weight 16 e.accept
    → slice_index_or shapes (mark + place) false ≡ false → number (mask_at e place) ≡ None
unnoted number shapes e place mark shaped within is missing =
    shaped (mask_at e place) (subst (λ at. slice_index_or shapes at false ≡ false) (ap (λ m. m + place) is ∙ sym (shape_at e place within)) missing)

-- the masks from a place on begin with the one at that place
drop_all : (e : Element) (place : ℕ) → place < 16 → drop place (all_masks e) ≡ mask_at e place ∷ drop (suc place) (all_masks e)
drop_all e zero within = refl
drop_all e (suc zero) within = refl
drop_all e (suc (suc zero)) within = refl
drop_all e (suc (suc (suc zero))) within = refl
drop_all e (suc (suc (suc (suc zero)))) within = refl
drop_all e (suc (suc (suc (suc (suc zero))))) within = refl
drop_all e (suc (suc (suc (suc (suc (suc zero)))))) within = refl
drop_all e (suc (suc (suc (suc (suc (suc (suc zero))))))) within = refl
drop_all e (suc (suc (suc (suc (suc (suc (suc (suc zero)))))))) within = refl
drop_all e (suc (suc (suc (suc (suc (suc (suc (suc (suc zero))))))))) within = refl
drop_all e (suc (suc (suc (suc (suc (suc (suc (suc (suc (suc zero)))))))))) within = refl
drop_all e (suc (suc (suc (suc (suc (suc (suc (suc (suc (suc (suc zero))))))))))) within = refl
drop_all e (suc (suc (suc (suc (suc (suc (suc (suc (suc (suc (suc (suc zero)))))))))))) within = refl
drop_all e (suc (suc (suc (suc (suc (suc (suc (suc (suc (suc (suc (suc (suc zero))))))))))))) within = refl
drop_all e (suc (suc (suc (suc (suc (suc (suc (suc (suc (suc (suc (suc (suc (suc zero)))))))))))))) within = refl
drop_all e (suc (suc (suc (suc (suc (suc (suc (suc (suc (suc (suc (suc (suc (suc (suc zero))))))))))))))) within = refl
drop_all e (suc (suc (suc (suc (suc (suc (suc (suc (suc (suc (suc (suc (suc (suc (suc (suc place)))))))))))))))) within = absurd (omega (arith, within))

drop_front : (e : Element) (place : ℕ) → place < 8 → drop place (take 8 (all_masks e)) ≡ mask_at e place ∷ drop (suc place) (take 8 (all_masks e))
drop_front e zero within = refl
drop_front e (suc zero) within = refl
drop_front e (suc (suc zero)) within = refl
drop_front e (suc (suc (suc zero))) within = refl
drop_front e (suc (suc (suc (suc zero)))) within = refl
drop_front e (suc (suc (suc (suc (suc zero))))) within = refl
drop_front e (suc (suc (suc (suc (suc (suc zero)))))) within = refl
drop_front e (suc (suc (suc (suc (suc (suc (suc zero))))))) within = refl
drop_front e (suc (suc (suc (suc (suc (suc (suc (suc place)))))))) within = absurd (omega (arith, within))

pub drop_masks : (e : Element) (place : ℕ) → place < length (masks e) → drop place (masks e) ≡ mask_at e place ∷ drop (suc place) (masks e)
drop_masks e place = by e.of_state
  where
    by : (o : Bool) → place < length (cond o (all_masks e) (take 8 (all_masks e)))
        → drop place (cond o (all_masks e) (take 8 (all_masks e))) ≡ mask_at e place ∷ drop (suc place) (cond o (all_masks e) (take 8 (all_masks e)))
    by true = drop_all e place
    by false = drop_front e place
