-- Members of lists, and lists in order.
use Rattle.std.proofs.Common.{◌≡◌, ◌↔◌, ◌⊎◌, inl, inr, refl, sym, ap, ap₂, subst, ◌∙◌, Bool, true, false, cond, List, [], ◌∷◌, ◌++◌, map, filter, flat_map}
use Rattle.defs_match.specs.Laws.{IsIn}
use Rattle.conflict_order.specs.Order.{Ordered}

-- ---- members

pub in_append : {A : Type 0} (x : A) (xs ys : List A) → IsIn x (xs ++ ys) → IsIn x xs ⊎ IsIn x ys
in_append x [] ys h = inr h
in_append x (y ∷ xs) ys (inl e) = inl (inl e)
in_append x (y ∷ xs) ys (inr h) = elim (in_append x xs ys h) [ inl a ↦ inl (inr a) | inr b ↦ inr b ]

pub in_left : {A : Type 0} (x : A) (xs ys : List A) → IsIn x xs → IsIn x (xs ++ ys)
in_left x [] ys h = absurd h
in_left x (y ∷ xs) ys (inl e) = inl e
in_left x (y ∷ xs) ys (inr h) = inr (in_left x xs ys h)

pub in_right : {A : Type 0} (x : A) (xs ys : List A) → IsIn x ys → IsIn x (xs ++ ys)
in_right x [] ys h = h
in_right x (y ∷ xs) ys h = inr (in_right x xs ys h)

pub in_flat_map : {A B : Type 0} (f : A → List B) (y : B) (xs : List A) → IsIn y (flat_map f xs) → (x : A) × IsIn x xs × IsIn y (f x)
in_flat_map f y [] h = absurd h
in_flat_map f y (x ∷ xs) h =
    elim (in_append y (f x) (flat_map f xs) h) [
      | inl a ↦ (x, inl refl, a)
      | inr b ↦ let found = in_flat_map f y xs b in (found.0, inr found.1, found.2)
    ]

pub in_map : {A B : Type 0} (f : A → B) (y : B) (xs : List A) → IsIn y (map f xs) → (x : A) × IsIn x xs × (f x ≡ y)
in_map f y [] h = absurd h
in_map f y (x ∷ xs) (inl e) = (x, inl refl, e)
in_map f y (x ∷ xs) (inr h) = let found = in_map f y xs h in (found.0, inr found.1, found.2)

if_in : {A : Type 0} (p : Bool) (x y : A) (ys : List A) → IsIn x (cond p (y ∷ ys) ys) → ((y ≡ x) × (p ≡ true)) ⊎ IsIn x ys
if_in true x y ys (inl e) = inl (e, refl)
if_in true x y ys (inr h) = inr h
if_in false x y ys h = inr h

if_in_more : {A : Type 0} (p : Bool) (x y : A) (ys : List A) → IsIn x ys → IsIn x (cond p (y ∷ ys) ys)
if_in_more true x y ys h = inr h
if_in_more false x y ys h = h

if_in_here : {A : Type 0} (p : Bool) (x y : A) (ys : List A) → p ≡ true → y ≡ x → IsIn x (cond p (y ∷ ys) ys)
if_in_here true x y ys h e = inl e
if_in_here false x y ys h e = absurd (cc)

pub in_filter : {A : Type 0} (p : A → Bool) (x : A) (xs : List A) → IsIn x (filter p xs) → IsIn x xs × (p x ≡ true)
in_filter p x [] h = absurd h
in_filter p x (y ∷ xs) h =
    elim (if_in (p y) x y (filter p xs) h) [
      | inl a ↦ (inl a.0, subst (λ z. p z ≡ true) a.0 a.1)
      | inr b ↦ let deep = in_filter p x xs b in (inr deep.0, deep.1)
    ]

pub in_filter_back : {A : Type 0} (p : A → Bool) (x : A) (xs : List A) → IsIn x xs → p x ≡ true → IsIn x (filter p xs)
in_filter_back p x [] h t = absurd h
in_filter_back p x (y ∷ xs) (inl e) t = if_in_here (p y) x y (filter p xs) (ap p e ∙ t) e
in_filter_back p x (y ∷ xs) (inr h) t = if_in_more (p y) x y (filter p xs) (in_filter_back p x xs h t)

-- ---- lists in order

module _ {A : Type 0} (less : A → A → Type 0) (never : (a b : A) → less a b → less b a → ⊥) where
  -- two lists in order with the same members are one
  pub same_in_order : (xs ys : List A) → Ordered less xs → Ordered less ys → ((a : A) → IsIn a xs ↔ IsIn a ys) → xs ≡ ys
  same_in_order [] [] o p same = refl
  same_in_order [] (y ∷ ys) o p same = absurd ((same y).1 (inl refl))
  same_in_order (x ∷ xs) [] o p same = absurd ((same x).0 (inl refl))
  same_in_order (x ∷ xs) (y ∷ ys) o p same = ap₂ (λ a l. a ∷ l) first (same_in_order xs ys o.1 p.1 rest)
    where
      first : x ≡ y
      first = elim ((same x).0 (inl refl)) [
        | inl e ↦ sym e
        | inr i ↦ elim ((same y).1 (inl refl)) [ inl e ↦ e | inr k ↦ absurd (never x y (o.0 y k) (p.0 x i)) ]
      ]

      rest : (a : A) → IsIn a xs ↔ IsIn a ys
      rest a = (
        (λ i. elim ((same a).0 (inr i)) [ inl e ↦ (let l : less x a = o.0 a i in absurd (never x x (subst (less x) (sym e ∙ sym first) l) (subst (less x) (sym e ∙ sym first) l))) | inr k ↦ k ]),
        (λ k. elim ((same a).1 (inr k)) [ inl e ↦ (let l : less y a = p.0 a k in absurd (never y y (subst (less y) (sym e ∙ first) l) (subst (less y) (sym e ∙ first) l))) | inr i ↦ i ]),
      )

pub weaker_order : {A : Type 0} (less more : A → A → Type 0) → ((a b : A) → less a b → more a b) → (xs : List A) → Ordered less xs → Ordered more xs
weaker_order less more f [] o = tt
weaker_order less more f (x ∷ xs) o = ((λ y i. f x y (o.0 y i)), weaker_order less more f xs o.1)

pub append_order : {A : Type 0} (less : A → A → Type 0) (xs ys : List A) → Ordered less xs → Ordered less ys → ((x y : A) → IsIn x xs → IsIn y ys → less x y) → Ordered less (xs ++ ys)
append_order less [] ys o p across = p
append_order less (x ∷ xs) ys o p across = (
  (λ y i. elim (in_append y xs ys i) [ inl k ↦ o.0 y k | inr k ↦ across x y (inl refl) k ]),
  append_order less xs ys o.1 p (λ a b i k. across a b (inr i) k),
)

pub map_order : {A B : Type 0} (less : A → A → Type 0) (more : B → B → Type 0) (f : A → B) → ((a b : A) → less a b → more (f a) (f b)) → (xs : List A) → Ordered less xs → Ordered more (map f xs)
map_order less more f keeps [] o = tt
map_order less more f keeps (x ∷ xs) o = (
  (λ y i. let from = in_map f y xs i in subst (more (f x)) from.2 (keeps x from.0 (o.0 from.0 from.1))),
  map_order less more f keeps xs o.1,
)

pub filter_order : {A : Type 0} (less : A → A → Type 0) (p : A → Bool) (xs : List A) → Ordered less xs → Ordered less (filter p xs)
filter_order less p [] o = tt
filter_order {A = A} less p (x ∷ xs) o = by (p x) (λ y i. o.0 y (in_filter p y xs i).0) (filter_order less p xs o.1)
  where
    by : (b : Bool) → ((y : A) → IsIn y (filter p xs) → less x y) → Ordered less (filter p xs) → Ordered less (cond b (x ∷ filter p xs) (filter p xs))
    by true above deep = (above, deep)
    by false above deep = deep
