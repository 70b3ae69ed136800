-- Rows with the same tags are one row, and a negation keeps exactly the rows that its inside does not extend.
use Rattle.std.proofs.Common.{◌≡◌, ◌≢◌, refl, sym, ◌∙◌, ap, subst, true, false, [], ◌∷◌, List, ℕ, ◌++◌, ◌+◌, Bool, suc, length, flat_map, ◌⊎◌, inl, inr, ◌↔◌, cond, Option, Some, None, arith}
use Rattle.soar_wm.specs.declared.element.Element.{Element}
use Rattle.soar_rule.specs.declared.cond.Pattern.{Pattern}
use Rattle.soar_rule.specs.Conditions.{Condition, positive, negated, conjunctive, Conditions, no_more, condition_and}
use Rattle.defs_match.specs.Laws.{IsIn, TagsDiffer, ElementsDiffer, followed_by, inside, IsNegation, StartsWith}
use Rattle.defs_match.specs.Rows.{rows, rows_with, rows_from, Row, extend, by_element, with_matched, bindings_at, takes_marks, only_without, empty_row}
use Rattle.defs_match.specs.Testing.{Bindings}

in_append : {A : Type 0} (x : A) (xs ys : List A) → IsIn x (xs ++ ys) → IsIn x xs ⊎ IsIn x ys
in_append x [] ys h = inr h
in_append x (y ∷ xs) ys (inl e) = inl (inl e)
in_append x (y ∷ xs) ys (inr h) = elim (in_append x xs ys h) [ inl a ↦ inl (inr a) | inr b ↦ inr b ]

in_left : {A : Type 0} (x : A) (xs ys : List A) → IsIn x xs → IsIn x (xs ++ ys)
in_left x [] ys h = absurd h
in_left x (y ∷ xs) ys (inl e) = inl e
in_left x (y ∷ xs) ys (inr h) = inr (in_left x xs ys h)

in_right : {A : Type 0} (x : A) (xs ys : List A) → IsIn x ys → IsIn x (xs ++ ys)
in_right x [] ys h = h
in_right x (y ∷ xs) ys h = inr (in_right x xs ys h)

-- what a flat_map holds came from one of the elements
pub in_flat_map : {A B : Type 0} (f : A → List B) (y : B) (xs : List A) → IsIn y (flat_map f xs) → (x : A) × IsIn x xs × IsIn y (f x)
in_flat_map f y [] h = absurd h
in_flat_map f y (x ∷ xs) h =
    elim (in_append y (f x) (flat_map f xs) h) [
      | inl a ↦ (x, inl refl, a)
      | inr b ↦ let found = in_flat_map f y xs b in (found.0, inr found.1, found.2)
    ]

in_flat_map_back : {A B : Type 0} (f : A → List B) (x : A) (y : B) (xs : List A) → IsIn x xs → IsIn y (f x) → IsIn y (flat_map f xs)
in_flat_map_back f x y [] h k = absurd h
in_flat_map_back f x y (z ∷ xs) (inl e) k = in_left y (f z) (flat_map f xs) (subst (λ w. IsIn y (f w)) (sym e) k)
in_flat_map_back f x y (z ∷ xs) (inr h) k = in_right y (f z) (flat_map f xs) (in_flat_map_back f x y xs h k)

-- how many positive conditions stand outside negations
abbrev pub positives : Conditions → ℕ
positives no_more = 0
positives (condition_and (positive p) cs) = suc (positives cs)
positives (condition_and (negated p) cs) = positives cs
positives (condition_and (conjunctive d) cs) = positives cs

abbrev pub positives_in : Condition → ℕ
positives_in (positive p) = 1
positives_in (negated p) = 0
positives_in (conjunctive d) = 0

-- x has n more elements than r
abbrev pub Extends : ℕ → Row → Row → Type 0
Extends n r x = (more : List ℕ) × (x.tags ≡ r.tags ++ more) × (length more ≡ n)

pub from_only : (r x : Row) (rs : List Row) → IsIn x (only_without r rs) → (x ≡ r) × (rs ≡ [])
from_only r x [] (inl e) = (sym e, refl)
from_only r x [] (inr h) = absurd h
from_only r x (s ∷ rs) h = absurd h

append_nil : {A : Type 0} (xs : List A) → xs ++ [] ≡ xs
append_nil [] = refl
append_nil (x ∷ xs) = ap (λ l. x ∷ l) (append_nil xs)

same_row : (r x : Row) → x ≡ r → Extends 0 r x
same_row r x e = ([], ap (λ s. s.tags) e ∙ sym (append_nil r.tags), refl)

from_element : (r x : Row) (e : Element) (o : Option Bindings) → IsIn x (with_matched r e o) → x.tags ≡ r.tags ++ e.tag ∷ []
from_element r x e None h = absurd h
from_element r x e (Some bs) (inl q) = ap (λ s. s.tags) (sym q)
from_element r x e (Some bs) (inr h) = absurd h

pub if_in : {A : Type 0} (b : Bool) (x : A) (xs : List A) → IsIn x (cond b xs []) → IsIn x xs
if_in true x xs h = h
if_in false x xs h = absurd h

by_tag : (p : Pattern) (r x : Row) (e : Element) → IsIn x (by_element p r e) → x.tags ≡ r.tags ++ e.tag ∷ []
by_tag p r x e h = from_element r x e (bindings_at p e r.bindings) (if_in (takes_marks p e) x _ h)

after_extends : (c : Condition) (w : List Element) (r x : Row) → IsIn x (rows_with c w r) → Extends (positives_in c) r x
after_extends (positive p) w r x h =
    let found = in_flat_map (by_element p r) x w h in (found.0.tag ∷ [], by_tag p r x found.0 found.2, refl)
after_extends (negated p) w r x h = same_row r x (from_only r x (extend p w r) h).0
after_extends (conjunctive cs) w r x h = same_row r x (from_only r x (rows_from cs w (r ∷ [])) h).0

-- ---- no two rows have the same tags

length_append : {A : Type 0} (xs ys : List A) → length (xs ++ ys) ≡ length xs + length ys
length_append [] ys = omega arith
length_append (x ∷ xs) ys = omega (arith, length_append xs ys)

head_same : {A : Type 0} (x y : A) (xs ys : List A) → x ∷ xs ≡ y ∷ ys → x ≡ y
head_same x y xs ys e = cc

tail_same : {A : Type 0} (x y : A) (xs ys : List A) → x ∷ xs ≡ y ∷ ys → xs ≡ ys
tail_same x y xs ys e = cc

split_same : {A : Type 0} (xs ys us vs : List A) → length xs ≡ length ys → xs ++ us ≡ ys ++ vs → xs ≡ ys
split_same [] [] us vs h e = refl
split_same [] (y ∷ ys) us vs h e = absurd (omega arith)
split_same (x ∷ xs) [] us vs h e = absurd (omega arith)
split_same (x ∷ xs) (y ∷ ys) us vs h e =
    let heads : x ≡ y = head_same x y (xs ++ us) (ys ++ vs) e in
    let tails : xs ≡ ys = split_same xs ys us vs (omega arith) (tail_same x y (xs ++ us) (ys ++ vs) e) in
    cc

cancel_front : {A : Type 0} (xs us vs : List A) → xs ++ us ≡ xs ++ vs → us ≡ vs
cancel_front [] us vs e = e
cancel_front (x ∷ xs) us vs e = cancel_front xs us vs (tail_same x x (xs ++ us) (xs ++ vs) e)

-- two rows that extend different rows by as many elements differ
same_origin : (n : ℕ) (r s x y : Row) → Extends n r x → Extends n s y → x.tags ≡ y.tags → r.tags ≡ s.tags
same_origin n r s x y h k e =
    let whole : r.tags ++ h.0 ≡ s.tags ++ k.0 = sym h.1 ∙ e ∙ k.1 in
    split_same r.tags s.tags h.0 k.0
    (omega (arith, length_append r.tags h.0, length_append s.tags k.0, ap length whole, h.2, k.2)) whole

differ_append : (xs ys : List Row) → TagsDiffer xs → TagsDiffer ys → ((x y : Row) → IsIn x xs → IsIn y ys → y.tags ≢ x.tags) → TagsDiffer (xs ++ ys)
differ_append [] ys h k apart = k
differ_append (x ∷ xs) ys h k apart = (
  (λ y i. elim (in_append y xs ys i) [ inl a ↦ h.0 y a | inr b ↦ apart x y (inl refl) b ]),
  differ_append xs ys h.1 k (λ z y i j. apart z y (inr i) j),
)

differ_flat_map : (n : ℕ) (f : Row → List Row) → ((r : Row) → TagsDiffer (f r)) → ((r x : Row) → IsIn x (f r) → Extends n r x)
    → (rs : List Row) → TagsDiffer rs → TagsDiffer (flat_map f rs)
differ_flat_map n f each grows [] h = tt
differ_flat_map n f each grows (r ∷ rs) h =
    differ_append (f r) (flat_map f rs) (each r) (differ_flat_map n f each grows rs h.1)
    (λ x y i j e. let from = in_flat_map f y rs j in
    h.0 from.0 from.1 (same_origin n from.0 r y x (grows from.0 y from.2) (grows r x i) e))

one_differs : (r : Row) → TagsDiffer (r ∷ [])
one_differs r = ((λ x h. absurd h), tt)

only_differs : (r : Row) (rs : List Row) → TagsDiffer (only_without r rs)
only_differs r [] = one_differs r
only_differs r (s ∷ rs) = tt

with_differs : (r : Row) (e : Element) (o : Option Bindings) → TagsDiffer (with_matched r e o)
with_differs r e None = tt
with_differs r e (Some bs) = ((λ x h. absurd h), tt)

if_differs : (b : Bool) (rs : List Row) → TagsDiffer rs → TagsDiffer (cond b rs [])
if_differs true rs h = h
if_differs false rs h = tt

extend_differs : (p : Pattern) (r : Row) (w : List Element) → ElementsDiffer w → TagsDiffer (extend p w r)
extend_differs p r [] h = tt
extend_differs p r (e ∷ es) h =
    differ_append (by_element p r e) (extend p es r)
    (if_differs (takes_marks p e) (with_matched r e (bindings_at p e r.bindings)) (with_differs r e (bindings_at p e r.bindings)))
    (extend_differs p r es h.1)
    (λ x y i j q. let from = in_flat_map (by_element p r) y es j in
    h.0 from.0 from.1 (head_same from.0.tag e.tag [] [] (cancel_front r.tags (from.0.tag ∷ []) (e.tag ∷ [])
    (sym (by_tag p r y from.0 from.2) ∙ q ∙ by_tag p r x e i))))

after_differs : (c : Condition) (w : List Element) (r : Row) → ElementsDiffer w → TagsDiffer (rows_with c w r)
after_differs (positive p) w r h = extend_differs p r w h
after_differs (negated p) w r h = only_differs r (extend p w r)
after_differs (conjunctive cs) w r h = only_differs r (rows_from cs w (r ∷ []))

from_differs : (cs : Conditions) (w : List Element) → ElementsDiffer w → (rs : List Row) → TagsDiffer rs → TagsDiffer (rows_from cs w rs)
from_differs no_more w h rs k = k
from_differs (condition_and c cs) w h rs k =
    from_differs cs w h (flat_map (rows_with c w) rs)
    (differ_flat_map (positives_in c) (rows_with c w) (λ r. after_differs c w r h) (λ r x i. after_extends c w r x i) rs k)

-- The tags tell a row: each list of tags is that of at most one row, and no row is listed twice.
pub rows_differ : (cs : Conditions) (w : List Element) → ElementsDiffer w → TagsDiffer (rows cs w)
rows_differ cs w h = from_differs cs w h (empty_row ∷ []) (one_differs empty_row)

-- ---- a negation keeps the rows that its inside does not extend

rows_then : (cs ds : Conditions) (w : List Element) (rs : List Row) → rows_from (followed_by cs ds) w rs ≡ rows_from ds w (rows_from cs w rs)
rows_then no_more ds w rs = refl
rows_then (condition_and c cs) ds w rs = rows_then cs ds w (flat_map (rows_with c w) rs)

-- each row comes from one row, and what comes from one row comes from any list with it
from_one : (cs : Conditions) (w : List Element) (rs : List Row) (x : Row)
    → IsIn x (rows_from cs w rs) ↔ ((s : Row) × IsIn s rs × IsIn x (rows_from cs w (s ∷ [])))
from_one no_more w rs x = ((λ h. (x, h, inl refl)), (λ h. elim (h.2) [ inl e ↦ subst (λ y. IsIn y rs) e h.1 | inr e ↦ absurd e ]))
from_one (condition_and c cs) w rs x = (
  (λ h.
      let deep = (from_one cs w (flat_map (rows_with c w) rs) x).0 h in
      let from = in_flat_map (rows_with c w) deep.0 rs deep.1 in
      (from.0, from.1, (from_one cs w (rows_with c w from.0 ++ []) x).1 (deep.0, in_left deep.0 (rows_with c w from.0) [] from.2, deep.2))),
  (λ h.
      let deep = (from_one cs w (rows_with c w h.0 ++ []) x).0 h.2 in
      let of = subst (λ l. IsIn deep.0 l) (append_nil (rows_with c w h.0)) deep.1 in
      (from_one cs w (flat_map (rows_with c w) rs) x).1 (deep.0, in_flat_map_back (rows_with c w) h.0 deep.0 rs h.1 of, deep.2)),
)

positives_first : (c : Condition) (cs : Conditions) → positives (condition_and c cs) ≡ positives_in c + positives cs
positives_first (positive p) cs = omega arith
positives_first (negated p) cs = omega arith
positives_first (conjunctive d) cs = omega arith

append_assoc : {A : Type 0} (xs ys zs : List A) → (xs ++ ys) ++ zs ≡ xs ++ (ys ++ zs)
append_assoc [] ys zs = refl
append_assoc (x ∷ xs) ys zs = ap (λ l. x ∷ l) (append_assoc xs ys zs)

from_extends : (cs : Conditions) (w : List Element) (rs : List Row) (x : Row) → IsIn x (rows_from cs w rs) → (s : Row) × IsIn s rs × Extends (positives cs) s x
from_extends no_more w rs x h = (x, h, same_row x x refl)
from_extends (condition_and c cs) w rs x h =
    let deep = from_extends cs w (flat_map (rows_with c w) rs) x h in
    let from = in_flat_map (rows_with c w) deep.0 rs deep.1 in
    let near : Extends (positives_in c) from.0 deep.0 = after_extends c w from.0 deep.0 from.2 in
    let far : Extends (positives cs) deep.0 x = deep.2 in (
      from.0,
      from.1,
      (
        near.0 ++ far.0,
        far.1 ∙ ap (λ l. l ++ far.0) near.1 ∙ append_assoc from.0.tags near.0 far.0,
        omega (arith, length_append near.0 far.0, near.2, far.2, positives_first c cs),
      ),
    )

one_row : (rs : List Row) (r s : Row) → TagsDiffer rs → IsIn r rs → IsIn s rs → r.tags ≡ s.tags → r ≡ s
one_row [] r s h i j e = absurd i
one_row (x ∷ xs) r s h (inl i) (inl j) e = sym i ∙ j
one_row (x ∷ xs) r s h (inl i) (inr j) e = absurd (h.0 s j (sym e ∙ ap (λ y. y.tags) (sym i)))
one_row (x ∷ xs) r s h (inr i) (inl j) e = absurd (h.0 r i (e ∙ ap (λ y. y.tags) (sym j)))
one_row (x ∷ xs) r s h (inr i) (inr j) e = one_row xs r s h.1 i j e

-- a row of the list has as many tags as the list has positive conditions
tags_count : (cs : Conditions) (w : List Element) (r : Row) → IsIn r (rows cs w) → length r.tags ≡ positives cs
tags_count cs w r h =
    let g = from_extends cs w (empty_row ∷ []) r h in
    elim (g.1) [
      | inl e ↦ ap length (g.2.1 ∙ ap (λ (y : Row). y.tags ++ g.2.0) (sym e)) ∙ g.2.2
      | inr e ↦ absurd e
    ]

-- the row stays exactly where its inside has no row
kept_where_none : (c : Condition) (w : List Element) (r s : Row) → IsNegation c → IsIn r (rows_with c w s) → (r ≡ s) × (rows_from (inside c) w (s ∷ []) ≡ [])
kept_where_none (positive p) w r s n h = absurd n
kept_where_none (negated p) w r s n h = let k = from_only s r (extend p w s) h in (k.0, append_nil (extend p w s) ∙ k.1)
kept_where_none (conjunctive cs) w r s n h = from_only s r (rows_from cs w (s ∷ [])) h

only_kept : (r : Row) (rs : List Row) → ((x : Row) → IsIn x rs → ⊥) → IsIn r (only_without r rs)
only_kept r [] h = inl refl
only_kept r (x ∷ rs) h = absurd (h x (inl refl))

kept_if_none : (c : Condition) (w : List Element) (r : Row) → IsNegation c → ((x : Row) → IsIn x (rows_from (inside c) w (r ∷ [])) → ⊥) → IsIn r (rows_with c w r)
kept_if_none (positive p) w r n h = absurd n
kept_if_none (negated p) w r n h = only_kept r (extend p w r) (λ x i. h x (in_left x (extend p w r) [] i))
kept_if_none (conjunctive cs) w r n h = only_kept r (rows_from cs w (r ∷ [])) h

-- A row of the list is a row of the list with the negation exactly where no row of the list with the inside begins with its tags.
pub negation_keeps : (cs : Conditions) (c : Condition) (w : List Element) (r : Row) → ElementsDiffer w → IsNegation c → IsIn r (rows cs w)
    → IsIn r (rows (followed_by cs (condition_and c no_more)) w) ↔ ((x : Row) → IsIn x (rows (followed_by cs (inside c)) w) → StartsWith r.tags x.tags → ⊥)
negation_keeps cs c w r differ n here = (
  (λ h x i starts.
      let h' = subst (λ l. IsIn r l) (rows_then cs (condition_and c no_more) w (empty_row ∷ [])) h in
      let from = in_flat_map (rows_with c w) r (rows cs w) h' in
      let kept = kept_where_none c w r from.0 n from.2 in
      let i' = subst (λ l. IsIn x l) (rows_then cs (inside c) w (empty_row ∷ [])) i in
      let origin = (from_one (inside c) w (rows cs w) x).0 i' in
      let grown : Extends (positives (inside c)) origin.0 x =
      let g = from_extends (inside c) w (origin.0 ∷ []) x origin.2 in
      elim (g.1) [ inl e ↦ subst (λ y. Extends (positives (inside c)) y x) (sym e) g.2 | inr e ↦ absurd e ] in
      let tags : r.tags ≡ origin.0.tags = split_same r.tags origin.0.tags starts.0 grown.0
      (tags_count cs w r here ∙ sym (tags_count cs w origin.0 origin.1))
      (sym starts.1 ∙ grown.1) in
      let same : r ≡ origin.0 = one_row (rows cs w) r origin.0 (rows_differ cs w differ) here origin.1 tags in
      let none : rows_from (inside c) w (r ∷ []) ≡ [] = subst (λ y. rows_from (inside c) w (y ∷ []) ≡ []) (sym kept.0) kept.1 in
      let there = subst (λ y. IsIn x (rows_from (inside c) w (y ∷ []))) (sym same) origin.2 in
      subst (λ l. IsIn x l) none there),
  (λ none.
      let kept = kept_if_none c w r n (λ x i.
      let g = from_extends (inside c) w (r ∷ []) x i in
      let there = (from_one (inside c) w (rows cs w) x).1 (r, here, i) in
      let begins : StartsWith r.tags x.tags = elim (g.1) [ inl e ↦ (g.2.0, subst (λ (y : Row). x.tags ≡ y.tags ++ g.2.0) (sym e) g.2.1) | inr e ↦ absurd e ] in
      none x (subst (λ l. IsIn x l) (sym (rows_then cs (inside c) w (empty_row ∷ []))) there) begins) in
      subst (λ l. IsIn r l) (sym (rows_then cs (condition_and c no_more) w (empty_row ∷ [])))
      (in_flat_map_back (rows_with c w) r r (rows cs w) here kept)),
)
