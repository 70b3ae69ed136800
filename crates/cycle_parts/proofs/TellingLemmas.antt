-- Letting go of all elements, one after the other.
use Rattle.std.proofs.Common.{◌≡◌, ◌∙◌, ℕ, ◌==◌, ◌||◌, Bool, true, false, cond, List, [], ◌∷◌, ◌++◌, refl, sym, ap, subst, rules, arith}
use Rattle.std.specs.List.{list_any}
use Rattle.soar_wm.specs.declared.element.Element.{Element}
use Rattle.soar_wm.specs.WorkingMemory.{has_tag, without_tag}
use Rattle.matching_laws.proofs.TagLemmas.{itself}
use Rattle.defs_match.specs.Contents.{HasTag}
use Rattle.defs_soar.specs.Start.{first_elements}
use Rattle.matching_laws.specs.Telling.{AreInsertable, AreRemovable, with_each}
use Rattle.soar_settle.specs.Tagging.{without_each}

without_first : (e : Element) (elements : List Element) → without_tag e.tag (e ∷ elements) ≡ elements
without_first e elements = ap (λ b. cond b elements (e ∷ without_tag e.tag elements)) (itself e.tag)

pub all_removable : (elements : List Element) → AreRemovable elements elements
all_removable [] = tt
all_removable (e ∷ elements) =
    (ap (λ b. b || list_any (has_tag e.tag) elements) (itself e.tag), subst (λ left. AreRemovable left elements) (sym (without_first e elements)) (all_removable elements))

pub none_left : (elements : List Element) → without_each elements elements ≡ []
none_left [] = refl
none_left (e ∷ elements) = ap (λ left. without_each left elements) (without_first e elements) ∙ none_left elements

-- ---- the elements of the start

pub starts_insertable : (held elements : List Element) → held ≡ [] → elements ≡ first_elements → AreInsertable held elements
starts_insertable held elements none first = subst (λ (h : List Element). AreInsertable h elements) (sym none) (subst (AreInsertable []) (sym first) (search rules))

pub starts_whole : (held elements : List Element) → held ≡ [] → elements ≡ first_elements → with_each held elements ≡ elements
starts_whole held elements none first = ap (λ (h : List Element). with_each h elements) none ∙ subst (λ (es : List Element). with_each [] es ≡ es) (sym first) refl

-- ---- the last goes first

same_tag : (m n : ℕ) → (m == n) ≡ true → m ≡ n
same_tag m n h = grind arith

one_tag : (a b : ℕ) (e : Element) → has_tag a e ≡ true → has_tag b e ≡ true → a ≡ b
one_tag a b e p q = sym (same_tag e.tag a p) ∙ same_tag e.tag b q

-- two elements go in either order
either_order : (a b : ℕ) (elements : List Element) → without_tag a (without_tag b elements) ≡ without_tag b (without_tag a elements)
either_order a b [] = refl
either_order a b (e ∷ elements) = by (either_order a b elements) (has_tag a e) refl (has_tag b e) refl
  where
    by : without_tag a (without_tag b elements) ≡ without_tag b (without_tag a elements) → (x : Bool) → has_tag a e ≡ x → (y : Bool) → has_tag b e ≡ y
        → without_tag a (cond y elements (e ∷ without_tag b elements)) ≡ without_tag b (cond x elements (e ∷ without_tag a elements))
    by later true p true q = ap (λ t. without_tag t elements) (one_tag a b e p q)
    by later true p false q = ap (λ x. cond x (without_tag b elements) (e ∷ without_tag a (without_tag b elements))) p
    by later false p true q = sym (ap (λ y. cond y (without_tag a elements) (e ∷ without_tag b (without_tag a elements))) q)
    by later false p false q =
        ap (λ x. cond x (without_tag b elements) (e ∷ without_tag a (without_tag b elements))) p
        ∙ ap (λ (left : List Element). e ∷ left) later
        ∙ sym (ap (λ y. cond y (without_tag a elements) (e ∷ without_tag b (without_tag a elements))) q)

-- a tag that is there once another has gone was there before
was_there : (a b : ℕ) (elements : List Element) → HasTag (without_tag a elements) b → HasTag elements b
was_there a b [] h = h
was_there a b (e ∷ elements) h = by (was_there a b elements) (has_tag a e) h
  where
    or_true : (x y : Bool) → y ≡ true → (x || y) ≡ true
    or_true true y h = refl
    or_true false y h = h

    or_later : (x y z : Bool) → (y ≡ true → z ≡ true) → (x || y) ≡ true → (x || z) ≡ true
    or_later true y z f h = refl
    or_later false y z f h = f h

    by : (HasTag (without_tag a elements) b → HasTag elements b) → (x : Bool) → list_any (has_tag b) (cond x elements (e ∷ without_tag a elements)) ≡ true → (has_tag b e || list_any (has_tag b) elements) ≡ true
    by later true k = or_true (has_tag b e) (list_any (has_tag b) elements) k
    by later false k = or_later (has_tag b e) (list_any (has_tag b) (without_tag a elements)) (list_any (has_tag b) elements) later k

-- of two tags that can go one after the other, the first is there once the second has gone
still_there : (a b : ℕ) (elements : List Element) → HasTag elements a → HasTag (without_tag a elements) b → HasTag (without_tag b elements) a
still_there a b [] h k = h
still_there a b (e ∷ elements) h k = by (still_there a b elements) (has_tag a e) refl (has_tag b e) refl h k
  where
    by : (HasTag elements a → HasTag (without_tag a elements) b → HasTag (without_tag b elements) a) → (x : Bool) → has_tag a e ≡ x → (y : Bool) → has_tag b e ≡ y → (x || list_any (has_tag a) elements) ≡ true
        → list_any (has_tag b) (cond x elements (e ∷ without_tag a elements)) ≡ true → list_any (has_tag a) (cond y elements (e ∷ without_tag b elements)) ≡ true
    by later true p true q h k = ap (λ t. list_any (has_tag t) elements) (one_tag a b e p q) ∙ k
    by later true p false q h k = ap (λ x. x || list_any (has_tag a) (without_tag b elements)) p
    by later false p true q h k = h
    by later false p false q h k =
        ap (λ x. x || list_any (has_tag a) (without_tag b elements)) p
        ∙ later h (sym (ap (λ y. y || list_any (has_tag b) (without_tag a elements)) q) ∙ k)

-- of elements that can go in their order, the last can go first, and the others after it
pub last_removable : (e : Element) (front elements : List Element) → AreRemovable elements (front ++ e ∷ [])
    → HasTag elements e.tag × AreRemovable (without_tag e.tag elements) front
last_removable e [] elements removable = (removable.0, tt)
last_removable e (f ∷ front) elements removable =
    let later = last_removable e front (without_tag f.tag elements) removable.1 in (
      was_there f.tag e.tag elements later.0,
      (still_there f.tag e.tag elements removable.0 later.0, subst (λ (left : List Element). AreRemovable left front) (either_order e.tag f.tag elements) later.1),
    )

pub last_without : (e : Element) (front elements : List Element) → without_each elements (front ++ e ∷ []) ≡ without_each (without_tag e.tag elements) front
last_without e [] elements = refl
last_without e (f ∷ front) elements =
    last_without e front (without_tag f.tag elements) ∙ ap (λ (left : List Element). without_each left front) (either_order e.tag f.tag elements)
