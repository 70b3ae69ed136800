-- One ground after the other.
use Rattle.std.proofs.Common.{◌≡◌, refl, ◌∙◌, ap, ℕ, zero, suc, List, [], ◌∷◌, filter}
use Rattle.soar_sym.specs.Words.{Texts}
use Rattle.soar_rule.specs.Repeat.{repeated}
use Rattle.soar_wm.specs.declared.element.Element.{Element}
use Rattle.condition_order.specs.Orders.{AreElementsKnown}
use Rattle.condition_order.proofs.KnownLemmas.{known_filter}
use Rattle.defs_soar.specs.ConditionOrder.{Ordered, one_ground_more, with_next}
use Rattle.defs_soar.specs.Sorted.{has_symbol}

-- a step that changes nothing changes nothing later
pub repeated_same : {A : Type 0} (n : ℕ) (step : A → A) (a : A) → step a ≡ a → repeated n step a ≡ a
repeated_same zero step a e = refl
repeated_same (suc n) step a e = ap (λ b. repeated n step b) e ∙ repeated_same n step a e

pub repeated_more : {A : Type 0} (n m : ℕ) (step : A → A) (a : A) → n ≡ suc m → repeated n step a ≡ repeated m step (step a)
repeated_more n m step a e = ap (λ k. repeated k step a) e

pub known_next : (words : Texts) (o : Ordered) → AreElementsKnown words o.left → AreElementsKnown words (one_ground_more words o).left
known_next words o k = go (filter (λ e. has_symbol o.places e.id) o.left)
  where
    go : (elements : List Element) → AreElementsKnown words (with_next words o elements).left
    go [] = k
    go (e ∷ elements) = known_filter words _ o.left k
