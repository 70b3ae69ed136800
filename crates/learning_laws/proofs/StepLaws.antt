-- Elements by tag, steps that stand, and firings in order of number.
use Rattle.std.proofs.Common.{◌≡◌, refl, sym, ap, subst, ℕ, ◌≤◌, ◌<◌, nat_lt, Bool, true, false, ◌==◌, cond, inl, inr, ◌⊎◌, arith, List, [], ◌∷◌, ◌++◌, map, append_assoc}
use Rattle.std.proofs.lemmas.List.{append-nil}
use Rattle.soar_wm.specs.declared.element.Element.{Element}
use Rattle.defs_soar.specs.Explanation.{as_item_step, as_select_step, at_its_tag, by_tag, is_naming_before, TagNaming, naming_eq, namings_in_order, with_naming}
use Rattle.defs_soar.specs.History.{FiringOf, StepOf, architecture_step, fire_step}
use Rattle.defs_soar.specs.Laws.{IsIn}
use Rattle.learning_laws.specs.Lawful.{IsMadeBefore, IsNamedGround, IsNamedMade, StepsStand}
use Rattle.learning_laws.proofs.Lists.{in_append, in_left, same_number}

-- ---- elements by tag, and those that name others

abbrev pub Tell : List Element → Type 0
Tell elements = (e f : Element) → IsIn e elements → IsIn f elements → e.tag ≡ f.tag → e ≡ f

pub from_tag : (e f : Element) (es : List Element) → IsIn f (at_its_tag e es) → (e ≡ f) ⊎ IsIn f es
from_tag e f [] (inl q) = inl q
from_tag e f [] (inr i) = absurd i
from_tag e f (g ∷ es) i = go (e.tag == g.tag) (nat_lt e.tag g.tag) i (from_tag e f es)
  where
    go : (a b : Bool) → IsIn f (cond a (g ∷ es) (cond b (e ∷ g ∷ es) (g ∷ at_its_tag e es))) → (IsIn f (at_its_tag e es) → (e ≡ f) ⊎ IsIn f es) → (e ≡ f) ⊎ IsIn f (g ∷ es)
    go true b j later = inr j
    go false true (inl q) later = inl q
    go false true (inr j) later = inr j
    go false false (inl q) later = inr (inl q)
    go false false (inr j) later = elim (later j) [ inl q ↦ inl q | inr l ↦ inr (inr l) ]

pub from_tags : (es : List Element) (f : Element) → IsIn f (by_tag es) → IsIn f es
from_tags [] f i = i
from_tags (e ∷ es) f i = elim (from_tag e f (by_tag es) i) [ inl q ↦ inl q | inr j ↦ inr (from_tags es f j) ]

pub others_stay : (e f : Element) (es : List Element) → IsIn f es → IsIn f (at_its_tag e es)
others_stay e f [] i = absurd i
others_stay e f (g ∷ es) i = go (e.tag == g.tag) (nat_lt e.tag g.tag) i (others_stay e f es)
  where
    go : (a b : Bool) → (g ≡ f) ⊎ IsIn f es → (IsIn f es → IsIn f (at_its_tag e es)) → IsIn f (cond a (g ∷ es) (cond b (e ∷ g ∷ es) (g ∷ at_its_tag e es)))
    go true b j later = j
    go false true j later = inr j
    go false false (inl q) later = inl q
    go false false (inr j) later = inr (later j)

pub this_stands : (e : Element) (es : List Element) → ((f : Element) → IsIn f es → e.tag ≡ f.tag → e ≡ f) → IsIn e (at_its_tag e es)
this_stands e [] tell = inl refl
this_stands e (g ∷ es) tell = go (e.tag == g.tag) refl (nat_lt e.tag g.tag) (this_stands e es (λ f i q. tell f (inr i) q))
  where
    go : (a : Bool) → (e.tag == g.tag) ≡ a → (b : Bool) → IsIn e (at_its_tag e es) → IsIn e (cond a (g ∷ es) (cond b (e ∷ g ∷ es) (g ∷ at_its_tag e es)))
    go true p b later = inl (sym (tell g (inl refl) (same_number e.tag g.tag p)))
    go false p true later = inl refl
    go false p false later = inr later

pub in_tags : (es : List Element) → Tell es → (e : Element) → IsIn e es → IsIn e (by_tag es)
in_tags [] tell e i = i
in_tags (g ∷ es) tell e (inl q) =
    subst (λ x. IsIn x (at_its_tag g (by_tag es))) q (this_stands g (by_tag es) (λ f j k. tell g f (inl refl) (inr (from_tags es f j)) k))
in_tags (g ∷ es) tell e (inr i) = others_stay g e (by_tag es) (in_tags es (λ x y j k q. tell x y (inr j) (inr k) q) e i)

-- one naming tells an element by its tag, and a tag
abbrev pub TellNaming : List TagNaming → Type 0
TellNaming ns = (a b : TagNaming) → IsIn a ns → IsIn b ns → naming_eq a b ≡ true → a ≡ b

pub from_one : (a b : TagNaming) (ns : List TagNaming) → IsIn b (with_naming a ns) → (a ≡ b) ⊎ IsIn b ns
from_one a b [] (inl q) = inl q
from_one a b [] (inr i) = absurd i
from_one a b (c ∷ ns) i = go (naming_eq a c) (is_naming_before a c) i (from_one a b ns)
  where
    go : (x y : Bool) → IsIn b (cond x (c ∷ ns) (cond y (a ∷ c ∷ ns) (c ∷ with_naming a ns))) → (IsIn b (with_naming a ns) → (a ≡ b) ⊎ IsIn b ns) → (a ≡ b) ⊎ IsIn b (c ∷ ns)
    go true y j later = inr j
    go false true (inl q) later = inl q
    go false true (inr j) later = inr j
    go false false (inl q) later = inr (inl q)
    go false false (inr j) later = elim (later j) [ inl q ↦ inl q | inr l ↦ inr (inr l) ]

pub from_namings : (ns : List TagNaming) (b : TagNaming) → IsIn b (namings_in_order ns) → IsIn b ns
from_namings [] b i = i
from_namings (a ∷ ns) b i = elim (from_one a b (namings_in_order ns) i) [ inl q ↦ inl q | inr j ↦ inr (from_namings ns b j) ]

pub other_namings : (a b : TagNaming) (ns : List TagNaming) → IsIn b ns → IsIn b (with_naming a ns)
other_namings a b [] i = absurd i
other_namings a b (c ∷ ns) i = go (naming_eq a c) (is_naming_before a c) i (other_namings a b ns)
  where
    go : (x y : Bool) → (c ≡ b) ⊎ IsIn b ns → (IsIn b ns → IsIn b (with_naming a ns)) → IsIn b (cond x (c ∷ ns) (cond y (a ∷ c ∷ ns) (c ∷ with_naming a ns)))
    go true y j later = j
    go false true j later = inr j
    go false false (inl q) later = inl q
    go false false (inr j) later = inr (later j)

pub this_naming : (a : TagNaming) (ns : List TagNaming) → ((b : TagNaming) → IsIn b ns → naming_eq a b ≡ true → a ≡ b) → IsIn a (with_naming a ns)
this_naming a [] tell = inl refl
this_naming a (c ∷ ns) tell = go (naming_eq a c) refl (is_naming_before a c) (this_naming a ns (λ b i q. tell b (inr i) q))
  where
    go : (x : Bool) → naming_eq a c ≡ x → (y : Bool) → IsIn a (with_naming a ns) → IsIn a (cond x (c ∷ ns) (cond y (a ∷ c ∷ ns) (c ∷ with_naming a ns)))
    go true p y later = inl (sym (tell c (inl refl) p))
    go false p true later = inl refl
    go false p false later = inr later

pub in_namings : (ns : List TagNaming) → TellNaming ns → (a : TagNaming) → IsIn a ns → IsIn a (namings_in_order ns)
in_namings [] tell a i = i
in_namings (b ∷ ns) tell a (inl q) =
    subst (λ x. IsIn x (with_naming b (namings_in_order ns))) q (this_naming b (namings_in_order ns) (λ c j k. tell b c (inl refl) (inr (from_namings ns c j)) k))
in_namings (b ∷ ns) tell a (inr i) = other_namings b a (namings_in_order ns) (in_namings ns (λ x y j k q. tell x y (inr j) (inr k) q) a i)

-- ---- steps that stand

abbrev pub AllSteps : List StepOf → List StepOf → Type 0
AllSteps before more = (s : StepOf) → IsIn s before → IsIn s more

pub stand_then : (grounds : List Element) (before xs ys : List StepOf) → StepsStand grounds before xs → StepsStand grounds (before ++ xs) ys → StepsStand grounds before (xs ++ ys)
stand_then grounds before [] ys h k = subst (λ b. StepsStand grounds b ys) (append-nil before) k
stand_then grounds before (x ∷ xs) ys h k =
    (h.0, stand_then grounds (before ++ x ∷ []) xs ys h.1 (subst (λ b. StepsStand grounds b ys) (sym (append_assoc before (x ∷ []) xs)) k))

pub architecture_stands : (grounds es : List Element) (before : List StepOf) → StepsStand grounds before (map architecture_step es)
architecture_stands grounds [] before = tt
architecture_stands grounds (e ∷ es) before = (tt, architecture_stands grounds es (before ++ architecture_step e ∷ []))

pub items_stand : (grounds : List Element) (ns : List TagNaming) (before : List StepOf) → ((n : TagNaming) → IsIn n ns → IsNamedGround grounds n.element n.named) → StepsStand grounds before (map as_item_step ns)
items_stand grounds [] before h = tt
items_stand grounds (n ∷ ns) before h = (h n (inl refl), items_stand grounds ns (before ++ as_item_step n ∷ []) (λ m i. h m (inr i)))

pub made_before_more : (before more : List StepOf) (number : ℕ) (e : Element) → AllSteps before more → IsMadeBefore before number e → IsMadeBefore more number e
made_before_more before more number e all m = record { firing = m.firing; is_step = all (fire_step m.firing) m.is_step; number_is = m.number_is; makes = m.makes }

pub selects_stand : (grounds : List Element) (ns : List TagNaming) (before : List StepOf) → ((n : TagNaming) → IsIn n ns → IsNamedMade before n.element) → StepsStand grounds before (map as_select_step ns)
selects_stand grounds [] before h = tt
selects_stand grounds (n ∷ ns) before h = (
  h n (inl refl),
  selects_stand grounds ns (before ++ as_select_step n ∷ [])
      (λ m i. let k = h m (inr i) in
      record { number = k.number; made = made_before_more before (before ++ as_select_step n ∷ []) k.number (record m.element { accept = true }) (λ s j. in_left s before (as_select_step n ∷ []) j) k.made }),
)

-- ---- firings in order of number

abbrev pub InOrder : List FiringOf → Type 0
InOrder [] = Unit {0}
InOrder (f ∷ fs) = ((g : FiringOf) → IsIn g fs → f.number ≤ g.number) × InOrder fs

pub order_append : (fs gs : List FiringOf) → InOrder fs → InOrder gs → ((f g : FiringOf) → IsIn f fs → IsIn g gs → f.number ≤ g.number) → InOrder (fs ++ gs)
order_append [] gs h k all = k
order_append (f ∷ fs) gs h k all = (
  (λ g i. elim (in_append g fs gs i) [ inl j ↦ h.0 g j | inr j ↦ all f g (inl refl) j ]),
  order_append fs gs h.1 k (λ x y i j. all x y (inr i) j),
)

-- one that is less stands in front
pub in_front : (front back : List FiringOf) (f g : FiringOf) → InOrder (front ++ f ∷ back) → IsIn g (front ++ f ∷ back) → g.number < f.number → IsIn g front
in_front front back f g o i l = go (in_append g front (f ∷ back) i)
  where
    late : (front : List FiringOf) → InOrder (front ++ f ∷ back) → IsIn g back → f.number ≤ g.number
    late [] o j = o.0 g j
    late (x ∷ front) o j = late front o.1 j

    go : IsIn g front ⊎ IsIn g (f ∷ back) → IsIn g front
    go (inl j) = j
    go (inr (inl q)) = let same : f.number ≡ g.number = ap (λ (x : FiringOf). x.number) q in absurd (omega arith)
    go (inr (inr j)) = let more = late front o j in absurd (omega arith)
