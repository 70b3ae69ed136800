-- A join's change comes from those of its two sides.
use Rattle.std.proofs.Common.{◌≡◌, refl, sym, ◌∙◌, ap, subst, true, false, [], ◌∷◌, map, filter, List, ℕ, ◌++◌, ◌==◌, ◌&&◌, Bool, length, flat_map, ◌⊎◌, inl, inr, cond, Option, Some, None, eqb-true, eq-eqb, ◌+◌, nat_eq, drop, length-append, arith}
use Rattle.std.specs.Bool.{Decides}
use Rattle.std.proofs.lemmas.Slice.Eq.{starts_is}
use Rattle.defs_match.specs.Laws.{IsIn}
use Rattle.defs_match.specs.Rows.{Row, by_element, extend, takes_marks, with_matched, bindings_at}
use Rattle.defs_match.specs.Testing.{Bindings}
use Rattle.soar_rule.specs.declared.cond.Pattern.{Pattern}
use Rattle.soar_wm.specs.declared.element.Element.{Element}
use Rattle.node_memory.specs.Changes.{join, begins, is_below, below, tags_of, OneEach, RowsChange, ElementsChange, OneEachElement, join_come, join_gone}

-- ---- lists

pub in_append : {A : Type 0} (x : A) (xs ys : List A) → IsIn x (xs ++ ys) → IsIn x xs ⊎ IsIn x ys
in_append x [] ys h = inr h
in_append x (y ∷ xs) ys (inl e) = inl (inl e)
in_append x (y ∷ xs) ys (inr h) = elim (in_append x xs ys h) [ inl a ↦ inl (inr a) | inr b ↦ inr b ]

pub in_left : {A : Type 0} (x : A) (xs ys : List A) → IsIn x xs → IsIn x (xs ++ ys)
in_left x [] ys h = absurd h
in_left x (y ∷ xs) ys (inl e) = inl e
in_left x (y ∷ xs) ys (inr h) = inr (in_left x xs ys h)

pub in_right : {A : Type 0} (x : A) (xs ys : List A) → IsIn x ys → IsIn x (xs ++ ys)
in_right x [] ys h = h
in_right x (y ∷ xs) ys h = inr (in_right x xs ys h)

pub in_flat_map : {A B : Type 0} (f : A → List B) (y : B) (xs : List A) → IsIn y (flat_map f xs) → (x : A) × IsIn x xs × IsIn y (f x)
in_flat_map f y [] h = absurd h
in_flat_map f y (x ∷ xs) h =
    elim (in_append y (f x) (flat_map f xs) h) [
      | inl a ↦ (x, inl refl, a)
      | inr b ↦ let found = in_flat_map f y xs b in (found.0, inr found.1, found.2)
    ]

pub in_flat_map_back : {A B : Type 0} (f : A → List B) (x : A) (y : B) (xs : List A) → IsIn x xs → IsIn y (f x) → IsIn y (flat_map f xs)
in_flat_map_back f x y [] h k = absurd h
in_flat_map_back f x y (z ∷ xs) (inl e) k = in_left y (f z) (flat_map f xs) (subst (λ w. IsIn y (f w)) (sym e) k)
in_flat_map_back f x y (z ∷ xs) (inr h) k = in_right y (f z) (flat_map f xs) (in_flat_map_back f x y xs h k)

pub in_map : {A B : Type 0} (f : A → B) (y : B) (xs : List A) → IsIn y (map f xs) → (x : A) × IsIn x xs × (f x ≡ y)
in_map f y [] h = absurd h
in_map f y (x ∷ xs) (inl e) = (x, inl refl, e)
in_map f y (x ∷ xs) (inr h) = let found = in_map f y xs h in (found.0, inr found.1, found.2)

pub in_map_back : {A B : Type 0} (f : A → B) (x : A) (xs : List A) → IsIn x xs → IsIn (f x) (map f xs)
in_map_back f x [] h = absurd h
in_map_back f x (y ∷ xs) (inl e) = inl (ap f e)
in_map_back f x (y ∷ xs) (inr h) = inr (in_map_back f x xs h)

if_in : {A : Type 0} (p : Bool) (x y : A) (ys : List A) → IsIn x (cond p (y ∷ ys) ys) → ((y ≡ x) × (p ≡ true)) ⊎ IsIn x ys
if_in true x y ys (inl e) = inl (e, refl)
if_in true x y ys (inr h) = inr h
if_in false x y ys h = inr h

if_in_more : {A : Type 0} (p : Bool) (x y : A) (ys : List A) → IsIn x ys → IsIn x (cond p (y ∷ ys) ys)
if_in_more true x y ys h = inr h
if_in_more false x y ys h = h

if_in_here : {A : Type 0} (p : Bool) (x y : A) (ys : List A) → p ≡ true → y ≡ x → IsIn x (cond p (y ∷ ys) ys)
if_in_here true x y ys h e = inl e
if_in_here false x y ys h e = absurd (cc)

pub in_filter : {A : Type 0} (p : A → Bool) (x : A) (xs : List A) → IsIn x (filter p xs) → IsIn x xs × (p x ≡ true)
in_filter p x [] h = absurd h
in_filter p x (y ∷ xs) h =
    elim (if_in (p y) x y (filter p xs) h) [
      | inl a ↦ (inl a.0, subst (λ z. p z ≡ true) a.0 a.1)
      | inr b ↦ let deep = in_filter p x xs b in (inr deep.0, deep.1)
    ]

pub in_filter_back : {A : Type 0} (p : A → Bool) (x : A) (xs : List A) → IsIn x xs → p x ≡ true → IsIn x (filter p xs)
in_filter_back p x [] h t = absurd h
in_filter_back p x (y ∷ xs) (inl e) t = if_in_here (p y) x y (filter p xs) (ap p e ∙ t) e
in_filter_back p x (y ∷ xs) (inr h) t = if_in_more (p y) x y (filter p xs) (in_filter_back p x xs h t)

-- ---- a join

with_tags : (r x : Row) (e : Element) (o : Option Bindings) → IsIn x (with_matched r e o) → x.tags ≡ r.tags ++ e.tag ∷ []
with_tags r x e None h = absurd h
with_tags r x e (Some bs) (inl q) = ap (λ (y : Row). y.tags) (sym q)
with_tags r x e (Some bs) (inr h) = absurd h

pub by_tags : (p : Pattern) (r x : Row) (e : Element) → IsIn x (by_element p r e) → x.tags ≡ r.tags ++ e.tag ∷ []
by_tags p r x e h = by (takes_marks p e) h
  where
    by : (b : Bool) → IsIn x (cond b (with_matched r e (bindings_at p e r.bindings)) []) → x.tags ≡ r.tags ++ e.tag ∷ []
    by true h = with_tags r x e (bindings_at p e r.bindings) h
    by false h = absurd h

pub in_join : (p : Pattern) (w : List Element) (rs : List Row) (x : Row) → IsIn x (join p w rs) → (r : Row) × (e : Element) × IsIn r rs × IsIn e w × IsIn x (by_element p r e)
in_join p w rs x h =
    let row = in_flat_map (extend p w) x rs h in
    let element = in_flat_map (by_element p row.0) x w row.2 in
    (row.0, element.0, row.1, element.1, element.2)

pub in_join_back : (p : Pattern) (w : List Element) (rs : List Row) (x r : Row) (e : Element) → IsIn r rs → IsIn e w → IsIn x (by_element p r e) → IsIn x (join p w rs)
in_join_back p w rs x r e i j k = in_flat_map_back (extend p w) r x rs i (in_flat_map_back (by_element p r) e x w j k)

and_first : (a b : Bool) → (a && b) ≡ true → (a ≡ true) × (b ≡ true)
and_first true b h = (refl, h)
and_first false b h = absurd (cc)

head_same : {A : Type 0} (x y : A) (xs ys : List A) → x ∷ xs ≡ y ∷ ys → x ≡ y
head_same x y xs ys e = cc

tail_same : {A : Type 0} (x y : A) (xs ys : List A) → x ∷ xs ≡ y ∷ ys → xs ≡ ys
tail_same x y xs ys e = cc

-- one more at the end: the same lists have the same fronts and the same ends
pub ends_same : (xs ys : List ℕ) (m n : ℕ) → xs ++ m ∷ [] ≡ ys ++ n ∷ [] → (xs ≡ ys) × (m ≡ n)
ends_same [] [] m n e = (refl, head_same m n [] [] e)
ends_same [] (y ∷ ys) m n e = absurd (none ys (tail_same m y [] (ys ++ n ∷ []) e))
  where
    none : (ys : List ℕ) → [] ≡ ys ++ n ∷ [] → ⊥
    none [] e = cc
    none (y ∷ ys) e = cc
ends_same (x ∷ xs) [] m n e = absurd (none xs (sym (tail_same x n (xs ++ m ∷ []) [] e)))
  where
    none : (xs : List ℕ) → [] ≡ xs ++ m ∷ [] → ⊥
    none [] e = cc
    none (y ∷ xs) e = cc
ends_same (x ∷ xs) (y ∷ ys) m n e =
    let heads : x ≡ y = head_same x y (xs ++ m ∷ []) (ys ++ n ∷ []) e in
    let deep = ends_same xs ys m n (tail_same x y (xs ++ m ∷ []) (ys ++ n ∷ []) e) in
    let whole : x ∷ xs ≡ y ∷ ys = cc in
    (whole, deep.1)

nat_decides : (a b : ℕ) → Decides (nat_eq a b) (a ≡ b)
nat_decides a b = (eqb-true a b, eq-eqb a b)

pub begins_told : (t q : List ℕ) → begins t q ≡ true → q ≡ t ++ drop (length t) q
begins_told t q h = (starts_is nat_decides q t (begins t q) refl).0 h

pub begins_back : (t q rest : List ℕ) → q ≡ t ++ rest → begins t q ≡ true
begins_back t q rest e = (starts_is nat_decides q t (begins t q) refl).1 rest e

one_more : (t r rest : List ℕ) (n : ℕ) → r ++ n ∷ [] ≡ t ++ rest → length (r ++ n ∷ []) ≡ length t + 1 → t ≡ r
one_more t r [] n e l = absurd (let long : length (t ++ []) ≡ length t = simp length-append (omega arith) in omega (arith, ap length e, long))
one_more t r (m ∷ []) n e l = sym (ends_same r t n m e).0
one_more t r (m ∷ k ∷ rest) n e l = absurd (let long : length (t ++ m ∷ k ∷ rest) ≡ length t + length (m ∷ k ∷ rest) = length-append t (m ∷ k ∷ rest) in omega (arith, ap length e, long))

below_told : (t r : List ℕ) (n : ℕ) → is_below t (r ++ n ∷ []) ≡ true → t ≡ r
below_told t r n h =
    let parts = and_first (begins t (r ++ n ∷ [])) (length (r ++ n ∷ []) == length t + 1) h in
    one_more t r (drop (length t) (r ++ n ∷ [])) n (begins_told t (r ++ n ∷ []) parts.0) (eqb-true (length (r ++ n ∷ [])) (length t + 1) parts.1)

below_here : (t : List ℕ) (n : ℕ) → is_below t (t ++ n ∷ []) ≡ true
below_here t n =
    let long : length (t ++ n ∷ []) ≡ length t + 1 = length-append t (n ∷ []) in
    ap (λ b. b && (length (t ++ n ∷ []) == length t + 1)) (begins_back t (t ++ n ∷ []) (n ∷ []) refl) ∙ eq-eqb (length (t ++ n ∷ [])) (length t + 1) long

pub in_below : (keys ts : List (List ℕ)) (q : List ℕ) → IsIn q (below keys ts) → (t : List ℕ) × IsIn t ts × IsIn q keys × (is_below t q ≡ true)
in_below keys ts q h =
    let t = in_flat_map (λ (t : List ℕ). filter (is_below t) keys) q ts h in
    let k = in_filter (is_below t.0) q keys t.2 in
    (t.0, t.1, k.0, k.1)

pub in_below_back : (keys ts : List (List ℕ)) (q t : List ℕ) → IsIn t ts → IsIn q keys → is_below t q ≡ true → IsIn q (below keys ts)
in_below_back keys ts q t i j h = in_flat_map_back (λ (t : List ℕ). filter (is_below t) keys) t q ts i (in_filter_back (is_below t) q keys j h)

in_tags : (x : Row) (rs : List Row) → IsIn x rs → IsIn x.tags (tags_of rs)
in_tags x rs h = in_map_back (λ (r : Row). r.tags) x rs h

-- A join's change, from the change of its parent's rows and that of the elements.
pub join_changes : (p : Pattern) (rows0 rows1 rows_come : List Row) (rows_gone keys : List (List ℕ)) (w0 w1 come gone : List Element)
    → RowsChange rows0 rows1 rows_come rows_gone → ElementsChange w0 w1 come gone
    → ((x : Row) → IsIn x (join p w0 rows0) → IsIn x.tags keys)
    → RowsChange (join p w0 rows0) (join p w1 rows1) (join_come p w1 rows1 come rows_come) (join_gone p rows1 gone rows_gone keys)
join_changes p rows0 rows1 rows_come rows_gone keys w0 w1 come gone rc ec kept = record {
  fresh = λ x h.
      let from = in_join p w1 rows1 x h in
      elim (rc.fresh from.0 from.2) [
        | inr i ↦ inr (in_left x (join p w1 rows_come) (join p come rows1) (in_join_back p w1 rows_come x from.0 from.1 i from.3 from.4))
        | inl i ↦ elim (ec.fresh from.1 from.3) [
          | inl j ↦ inl (in_join_back p w0 rows0 x from.0 from.1 i j from.4)
          | inr j ↦ inr (in_right x (join p w1 rows_come) (join p come rows1) (in_join_back p come rows1 x from.0 from.1 from.2 j from.4))
        ]
      ];
  here = λ x h.
      elim (in_append x (join p w1 rows_come) (join p come rows1) h) [
        | inl i ↦ (let from = in_join p w1 rows_come x i in in_join_back p w1 rows1 x from.0 from.1 (rc.here from.0 from.2) from.3 from.4)
        | inr i ↦ (let from = in_join p come rows1 x i in in_join_back p w1 rows1 x from.0 from.1 from.2 (ec.here from.1 from.3) from.4)
      ];
  lost = λ x h.
      let from = in_join p w0 rows0 x h in
      let tags : x.tags ≡ from.0.tags ++ from.1.tag ∷ [] = by_tags p from.0 x from.1 from.4 in
      elim (rc.lost from.0 from.2) [
        | inr i ↦ inr (in_left x.tags (below keys rows_gone) (tags_of (join p gone rows1))
            (in_below_back keys rows_gone x.tags from.0.tags i (kept x h) (ap (is_below from.0.tags) tags ∙ below_here from.0.tags from.1.tag)))
        | inl i ↦ elim (ec.lost from.1 from.3) [
          | inl j ↦ inl (in_join_back p w1 rows1 x from.0 from.1 i j from.4)
          | inr j ↦ inr (in_right x.tags (below keys rows_gone) (tags_of (join p gone rows1))
              (in_tags x (join p gone rows1) (in_join_back p gone rows1 x from.0 from.1 i j from.4)))
        ]
      ];
  away = λ x h g.
      let from = in_join p w1 rows1 x h in
      let tags : x.tags ≡ from.0.tags ++ from.1.tag ∷ [] = by_tags p from.0 x from.1 from.4 in
      elim (in_append x.tags (below keys rows_gone) (tags_of (join p gone rows1)) g) [
        | inl i ↦ (let under = in_below keys rows_gone x.tags i in
            let same : under.0 ≡ from.0.tags = below_told under.0 from.0.tags from.1.tag (ap (is_below under.0) (sym tags) ∙ under.3) in
            rc.away from.0 from.2 (subst (λ t. IsIn t rows_gone) same under.1))
        | inr i ↦ (let other = in_map (λ (r : Row). r.tags) x.tags (join p gone rows1) i in
            let was = in_join p gone rows1 other.0 other.1 in
            let ends = ends_same from.0.tags was.0.tags from.1.tag was.1.tag (sym tags ∙ sym other.2 ∙ by_tags p was.0 other.0 was.1 was.4) in
            ec.away from.1 was.1 from.3 was.3 ends.1)
      ];
}

one_of : (r x y : Row) (e : Element) (o : Option Bindings) → IsIn x (with_matched r e o) → IsIn y (with_matched r e o) → x ≡ y
one_of r x y e None h g = absurd h
one_of r x y e (Some bs) (inl a) (inl b) = sym a ∙ b
one_of r x y e (Some bs) (inl a) (inr b) = absurd b
one_of r x y e (Some bs) (inr a) g = absurd a

one_in : (p : Pattern) (r x y : Row) (e : Element) → IsIn x (by_element p r e) → IsIn y (by_element p r e) → x ≡ y
one_in p r x y e h g = by (takes_marks p e) h g
  where
    by : (b : Bool) → IsIn x (cond b (with_matched r e (bindings_at p e r.bindings)) []) → IsIn y (cond b (with_matched r e (bindings_at p e r.bindings)) []) → x ≡ y
    by true h g = one_of r x y e (bindings_at p e r.bindings) h g
    by false h g = absurd h

pub join_one_each : (p : Pattern) (w : List Element) (rs : List Row) → OneEachElement w → OneEach rs → OneEach (join p w rs)
join_one_each p w rs ew er x y i j same =
    let a = in_join p w rs x i in
    let b = in_join p w rs y j in
    let ends = ends_same a.0.tags b.0.tags a.1.tag b.1.tag (sym (by_tags p a.0 x a.1 a.4) ∙ same ∙ by_tags p b.0 y b.1 b.4) in
    let row : a.0 ≡ b.0 = er a.0 b.0 a.2 b.2 ends.0 in
    let element : a.1 ≡ b.1 = ew a.1 b.1 a.3 b.3 ends.1 in
    let there : IsIn y (by_element p a.0 a.1) = subst (λ r. IsIn y (by_element p r a.1)) (sym row) (subst (λ e. IsIn y (by_element p b.0 e)) (sym element) b.4) in
    one_in p a.0 x y a.1 a.4 there
