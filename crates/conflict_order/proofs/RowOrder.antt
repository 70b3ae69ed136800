-- The rows of conditions are in order of tags.
use Rattle.std.proofs.Common.{◌≡◌, inl, inr, refl, sym, ap, ap₂, subst, ◌∙◌, Bool, true, false, cond, ℕ, ◌<◌, List, [], ◌∷◌, ◌++◌, flat_map, append_assoc, Option, Some, None}
use Rattle.std.specs.Ordering.{nat_cmp, ordering_then}
use Rattle.std.specs.declared.cmp.Ordering.TheVariants.{Less}
use Rattle.std.specs.Cmp.{tied_itself, nat_cmp_is}
use Rattle.std.specs.Cmp.Lexicographic.{slice_cmp}
use Rattle.std.proofs.lemmas.Cmp.{nat_cmp_total}
use Rattle.soar_rule.specs.declared.cond.Pattern.{Pattern}
use Rattle.soar_rule.specs.Conditions.{Condition, positive, negated, conjunctive, Conditions, no_more, condition_and}
use Rattle.soar_wm.specs.WorkingMemory.{IsBelow, IsRising}
use Rattle.soar_wm.specs.declared.element.Element.{Element}
use Rattle.defs_match.specs.Laws.{IsIn}
use Rattle.defs_match.specs.Testing.{Bindings}
use Rattle.defs_match.specs.Rows.{Row, empty_row, takes_marks, bindings_at, with_matched, by_element, extend, only_without, rows, rows_with, rows_from}
use Rattle.conflict_order.specs.Order.{Ordered}
use Rattle.conflict_order.proofs.ListOrder.{append_order, in_flat_map, weaker_order}

-- ---- whatever follows, the one list comes before the other

abbrev FrontLess : List ℕ → List ℕ → Type 0
FrontLess a b = (x y : List ℕ) → slice_cmp nat_cmp (a ++ x) (b ++ y) ≡ Less

front_more : (a b c d : List ℕ) → FrontLess a b → FrontLess (a ++ c) (b ++ d)
front_more a b c d h x y = ap₂ (λ p q. slice_cmp nat_cmp p q) (append_assoc a c x) (append_assoc b d y) ∙ h (c ++ x) (d ++ y)

front_end : (a : List ℕ) (m n : ℕ) → m < n → FrontLess (a ++ m ∷ []) (a ++ n ∷ [])
front_end [] m n lt x y = ap (λ o. ordering_then o (slice_cmp nat_cmp x y)) (sym (nat_cmp_is m n Less lt))
front_end (k ∷ a) m n lt x y = ap (λ o. ordering_then o (slice_cmp nat_cmp ((a ++ m ∷ []) ++ x) ((a ++ n ∷ []) ++ y))) (tied_itself nat_cmp_total k) ∙ front_end a m n lt x y

no_rest : (a : List ℕ) → a ++ [] ≡ a
no_rest [] = refl
no_rest (k ∷ a) = ap (λ l. k ∷ l) (no_rest a)

abbrev RowFront : Row → Row → Type 0
RowFront r s = FrontLess r.tags s.tags

abbrev pub RowLess : Row → Row → Type 0
RowLess r s = slice_cmp nat_cmp r.tags s.tags ≡ Less

front_less : (r s : Row) → RowFront r s → RowLess r s
front_less r s h = sym (ap₂ (λ p q. slice_cmp nat_cmp p q) (no_rest r.tags) (no_rest s.tags)) ∙ h [] []

-- ---- rows that extend rows in order are in order

abbrev Extends : Row → Row → Type 0
Extends r x = (more : List ℕ) × (x.tags ≡ r.tags ++ more)

flat_order : (f : Row → List Row) → ((r : Row) → Ordered RowFront (f r)) → ((r x : Row) → IsIn x (f r) → Extends r x) → (rs : List Row) → Ordered RowFront rs → Ordered RowFront (flat_map f rs)
flat_order f own extends [] o = tt
flat_order f own extends (r ∷ rs) o = append_order RowFront (f r) (flat_map f rs) (own r) (flat_order f own extends rs o.1) across
  where
    across : (x y : Row) → IsIn x (f r) → IsIn y (flat_map f rs) → RowFront x y
    across x y i k =
        let from = in_flat_map f y rs k in
        let ex = extends r x i in
        let ey = extends from.0 y from.2 in
        subst (λ (a : List ℕ). FrontLess a y.tags) (sym ex.1) (subst (λ (b : List ℕ). FrontLess (r.tags ++ ex.0) b) (sym ey.1) (front_more r.tags from.0.tags ex.0 ey.0 (o.0 from.0 from.1)))

one_order : (r : Row) (e : Element) (b : Bool) (o : Option Bindings) → Ordered RowFront (cond b (with_matched r e o) [])
one_order r e true None = tt
one_order r e true (Some bs) = ((λ y i. absurd i), tt)
one_order r e false o = tt

with_tags : (r x : Row) (e : Element) (o : Option Bindings) → IsIn x (with_matched r e o) → x.tags ≡ r.tags ++ e.tag ∷ []
with_tags r x e None h = absurd h
with_tags r x e (Some bs) (inl q) = ap (λ (y : Row). y.tags) (sym q)
with_tags r x e (Some bs) (inr h) = absurd h

by_tags : (p : Pattern) (r x : Row) (e : Element) → IsIn x (by_element p r e) → x.tags ≡ r.tags ++ e.tag ∷ []
by_tags p r x e h = by (takes_marks p e) h
  where
    by : (b : Bool) → IsIn x (cond b (with_matched r e (bindings_at p e r.bindings)) []) → x.tags ≡ r.tags ++ e.tag ∷ []
    by true h = with_tags r x e (bindings_at p e r.bindings) h
    by false h = absurd h

below_told : (t : ℕ) (w : List Element) → IsBelow t w → (e : Element) → IsIn e w → t < e.tag
below_told t [] h e i = absurd i
below_told t (d ∷ w) h e (inl same) = subst (λ (x : Element). t < x.tag) same h.0
below_told t (d ∷ w) h e (inr i) = below_told t w h.1 e i

extend_order : (p : Pattern) (r : Row) (w : List Element) → IsRising w → Ordered RowFront (extend p w r)
extend_order p r [] up = tt
extend_order p r (e ∷ w) up =
    append_order RowFront (by_element p r e) (extend p w r) (one_order r e (takes_marks p e) (bindings_at p e r.bindings)) (extend_order p r w up.1)
    (λ x y i k.
    let from = in_flat_map (by_element p r) y w k in
    subst (λ (a : List ℕ). FrontLess a y.tags) (sym (by_tags p r x e i)) (subst (λ (b : List ℕ). FrontLess (r.tags ++ e.tag ∷ []) b) (sym (by_tags p r y from.0 from.2))
    (front_end r.tags e.tag from.0.tag (below_told e.tag w up.0 from.0 from.1))))

only_order : (r : Row) (l : List Row) → Ordered RowFront (only_without r l)
only_order r [] = ((λ y i. absurd i), tt)
only_order r (y ∷ l) = tt

only_extends : (r x : Row) (l : List Row) → IsIn x (only_without r l) → Extends r x
only_extends r x [] (inl e) = ([], ap (λ (y : Row). y.tags) (sym e) ∙ sym (no_rest r.tags))
only_extends r x [] (inr h) = absurd h
only_extends r x (y ∷ l) h = absurd h

after_order : (c : Condition) (w : List Element) → IsRising w → (r : Row) → Ordered RowFront (rows_with c w r)
after_order (positive p) w up r = extend_order p r w up
after_order (negated p) w up r = only_order r (extend p w r)
after_order (conjunctive cs) w up r = only_order r (rows_from cs w (r ∷ []))

after_extends : (c : Condition) (w : List Element) (r x : Row) → IsIn x (rows_with c w r) → Extends r x
after_extends (positive p) w r x i = (let from = in_flat_map (by_element p r) x w i in (from.0.tag ∷ [], by_tags p r x from.0 from.2))
after_extends (negated p) w r x i = only_extends r x (extend p w r) i
after_extends (conjunctive cs) w r x i = only_extends r x (rows_from cs w (r ∷ [])) i

from_order : (cs : Conditions) (w : List Element) → IsRising w → (rs : List Row) → Ordered RowFront rs → Ordered RowFront (rows_from cs w rs)
from_order no_more w up rs o = o
from_order (condition_and c cs) w up rs o = from_order cs w up (flat_map (rows_with c w) rs) (flat_order (rows_with c w) (after_order c w up) (after_extends c w) rs o)

pub rows_order : (cs : Conditions) (w : List Element) → IsRising w → Ordered RowLess (rows cs w)
rows_order cs w up = weaker_order RowFront RowLess front_less (rows cs w) (from_order cs w up (empty_row ∷ []) ((λ y i. absurd i), tt))
