-- Rows of lists of conditions, one behind the other.
use Rattle.std.proofs.Common.{◌≡◌, inl, inr, refl, sym, ap, ◌∙◌, List, [], ◌∷◌, flat_map}
use Rattle.soar_wm.specs.declared.element.Element.{Element}
use Rattle.soar_rule.specs.Conditions.{Conditions, no_more, condition_and}
use Rattle.defs_match.specs.Laws.{TagsDiffer, followed_by}
use Rattle.defs_match.specs.Rows.{Row, rows_with, rows_from}
use Rattle.node_memory.specs.Changes.{OneEach}

pub from_followed : (cs ds : Conditions) (w : List Element) (rs : List Row) → rows_from (followed_by cs ds) w rs ≡ rows_from ds w (rows_from cs w rs)
from_followed no_more ds w rs = refl
from_followed (condition_and c cs) ds w rs = from_followed cs ds w (flat_map (rows_with c w) rs)

pub one_each : (rs : List Row) → TagsDiffer rs → OneEach rs
one_each [] differ x y i j same = absurd i
one_each (r ∷ rs) differ x y (inl e) (inl f) same = sym e ∙ f
one_each (r ∷ rs) differ x y (inl e) (inr j) same = absurd (differ.0 y j (sym same ∙ ap (λ (z : Row). z.tags) (sym e)))
one_each (r ∷ rs) differ x y (inr i) (inl f) same = absurd (differ.0 x i (same ∙ ap (λ (z : Row). z.tags) (sym f)))
one_each (r ∷ rs) differ x y (inr i) (inr j) same = one_each rs differ.1 x y i j same
