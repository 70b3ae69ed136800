-- The places of variables among some, found by their old numbers.
use Rattle.std.proofs.Common.{◌≡◌, ◌≢◌, ℕ, zero, suc, ◌+◌, ◌<◌, ◌≤◌, Bool, true, false, ◌&&◌, ◌||◌, ◌==◌, nat_lt, List, [], ◌∷◌, ◌++◌, length, length-append, get_or, set, refl, sym, ap, subst, ◌∙◌, cond, pos, drop, drop-cons, add-one, append_assoc, arith}
use Rattle.std.proofs.Math.Dec.{eqb}
use Rattle.std.proofs.Math.Logic.{◌⊎◌, inl, inr}
use Rattle.std.proofs.Math.Seq.{get_or-append_seam}
use Rattle.std.proofs.lemmas.Bool.{eqb-true, eqb-false, eq-eqb, ne_eqb, ltb-true, ltb-false, lt-ltb, cases_lt}
use Rattle.std.proofs.lemmas.List.{get_or_append_left, get_or-set_same, get_or-set_other}
use Rattle.std.proofs.lemmas.Grind.{get_or_default_zero}
use Rattle.std.specs.List.{list_any}
use Rattle.std.proofs.lemmas.Map.Keys.{IsDistinct-from_apart}
use Rattle.std.proofs.lemmas.Map.Steps.{length-le_from_distinct_below}
use Rattle.soar_sym.specs.declared.symbol.Sym.{Sym}
use Rattle.soar_sym.specs.declared.symbol.Sym.TheVariants.{Int}
use Rattle.soar_rule.specs.Canonical.{place_among, numbers_from}
use Rattle.soar_rule.specs.Numbering.{ArePlaced}
use Rattle.soar_rule.specs.Variables.{is_among, with_each}

pub both : (a b : Bool) → a && b ≡ true → (a ≡ true) × (b ≡ true)
both true b h = (refl, h)
both false b h = cc

-- ---- places among variables

pub place_within : (order : List ℕ) (v : ℕ) → place_among order v ≤ length order
place_within [] v = omega arith
place_within (w ∷ order) v = by (v == w) (place_within order v)
  where
    by : (b : Bool) → place_among order v ≤ length order → cond b 0 (suc (place_among order v)) ≤ suc (length order)
    by true within = omega arith
    by false within = omega arith

pub stands_in_place : (order : List ℕ) (v : ℕ) → place_among order v < length order → get_or order (place_among order v) 0 ≡ v
stands_in_place [] v below = absurd (omega (arith, below))
stands_in_place (w ∷ order) v below = by (v == w) refl below (stands_in_place order v)
  where
    by : (b : Bool) → (v == w) ≡ b → cond b 0 (suc (place_among order v)) < suc (length order)
        → (place_among order v < length order → get_or order (place_among order v) 0 ≡ v)
        → get_or (w ∷ order) (cond b 0 (suc (place_among order v))) 0 ≡ v
    by true e below later = sym (eqb-true v w e)
    by false e below later = later (omega (arith, below))

-- the place is the first one
pub place_is_first : (order : List ℕ) (v place : ℕ) → place < length order → get_or order place 0 ≡ v → place_among order v ≤ place
place_is_first [] v place below at = absurd (omega (arith, below))
place_is_first (w ∷ order) v zero below at = by (v == w) refl
  where
    by : (b : Bool) → (v == w) ≡ b → cond b 0 (suc (place_among order v)) ≤ 0
    by true e = omega arith
    by false e = absurd (eqb-false v w e (sym at))
place_is_first (w ∷ order) v (suc place) below at = by (v == w) (place_is_first order v place (omega (arith, below)) at)
  where
    by : (b : Bool) → place_among order v ≤ place → cond b 0 (suc (place_among order v)) ≤ suc place
    by true first = omega arith
    by false first = omega arith

-- a variable is among others exactly where its place is
pub among_by_place : (order : List ℕ) (v : ℕ) → is_among order v ≡ nat_lt (place_among order v) (length order)
among_by_place [] v = refl
among_by_place (w ∷ order) v = by (v == w) (among_by_place order v)
  where
    by : (b : Bool) → is_among order v ≡ nat_lt (place_among order v) (length order)
        → (b || is_among order v) ≡ nat_lt (cond b 0 (suc (place_among order v))) (suc (length order))
    by true later = grind arith
    by false later = later ∙ grind arith

among_any : (order : List ℕ) (v : ℕ) → list_any (eqb v) order ≡ is_among order v
among_any [] v = refl
among_any (w ∷ order) v = ap (λ b. (v == w) || b) (among_any order v)

-- ---- places beside old numbers

-- a variable that stands at the place beside it has no other place
pub stands_there : (order places : List ℕ) (v place : ℕ) → ArePlaced order places → place ≡ get_or places v 0
    → nat_lt place (length order) && (get_or order place 0 == v) ≡ true → place ≡ place_among order v
stands_there order places v place placed beside stands =
    let test : (nat_lt place (length order) ≡ true) × ((get_or order place 0 == v) ≡ true) = both (nat_lt place (length order)) (get_or order place 0 == v) stands in
    let below : place < length order = ltb-true place (length order) test.0 in
    let first : place_among order v ≤ place = place_is_first order v place below (eqb-true (get_or order place 0) v test.1) in
    let within : place_among order v < length order = omega arith in
    beside ∙ ap (λ w. get_or places w 0) (sym (stands_in_place order v within)) ∙ placed (place_among order v) within

-- a variable that does not stand at the place beside it has none
pub stands_nowhere : (order places : List ℕ) (v place : ℕ) → ArePlaced order places → place ≡ get_or places v 0
    → nat_lt place (length order) && (get_or order place 0 == v) ≡ false → length order ≡ place_among order v
stands_nowhere order places v place placed beside stands = by (nat_lt (place_among order v) (length order)) refl
  where
    by : (b : Bool) → nat_lt (place_among order v) (length order) ≡ b → length order ≡ place_among order v
    by true e =
        let within : place_among order v < length order = ltb-true (place_among order v) (length order) e in
        let at : get_or order (place_among order v) 0 ≡ v = stands_in_place order v within in
        let here : place ≡ place_among order v = beside ∙ ap (λ w. get_or places w 0) (sym at) ∙ placed (place_among order v) within in
        let there : nat_lt place (length order) ≡ true = ap (λ n. nat_lt n (length order)) here ∙ e in
        let same : (get_or order place 0 == v) ≡ true = eq-eqb (get_or order place 0) v (ap (λ n. get_or order n 0) here ∙ at) in
        absurd (cc (ap (λ b. b && (get_or order place 0 == v)) there))
    by false e =
        let most : place_among order v ≤ length order = place_within order v in
        let least : length order ≤ place_among order v = ltb-false (place_among order v) (length order) e in
        omega arith

-- a variable that has no place differs from all that have one, and those from one another
once_more : (order places : List ℕ) (v : ℕ) → ArePlaced order places → length order ≡ place_among order v
    → (i j d : ℕ) → i < j → j < suc (length order) → eqb (get_or (v ∷ order) i d) (get_or (v ∷ order) j d) ≡ false
once_more order places v placed missing zero zero d before within = absurd (omega (arith, before))
once_more order places v placed missing zero (suc j) d before within =
    let below : j < length order = omega arith in
    ne_eqb v (get_or order j d) (λ same.
    let first : place_among order v ≤ j = place_is_first order v j below (sym (get_or_default_zero order j d below) ∙ sym same) in
    omega arith)
once_more order places v placed missing (suc i) zero d before within = absurd (omega (arith, before))
once_more order places v placed missing (suc i) (suc j) d before within =
    let here : i < length order = omega arith in
    let there : j < length order = omega arith in
    ne_eqb (get_or order i d) (get_or order j d) (λ same.
    let at : get_or order i 0 ≡ get_or order j 0 = sym (get_or_default_zero order i d here) ∙ same ∙ get_or_default_zero order j d there in
    let one : i ≡ j = sym (placed i here) ∙ ap (λ w. get_or places w 0) at ∙ placed j there in
    omega arith)

-- where there are no more than so many numbers, one that was not met leaves room for its place
pub room_for_one : (order places : List ℕ) (v bound : ℕ) → ArePlaced order places → ((k : ℕ) → get_or order k 0 < bound) → v < bound → length order ≡ place_among order v
    → length order < bound
room_for_one order places v bound placed below here missing =
    length-le_from_distinct_below (v ∷ order) bound (IsDistinct-from_apart eqb (v ∷ order) (λ i j d before within. once_more order places v placed missing i j d before within))
    (λ q any. by q (q == v) refl any)
  where
    by : (q : ℕ) (b : Bool) → (q == v) ≡ b → (b || list_any (eqb q) order) ≡ true → q < bound
    by q true e any = let same : q ≡ v = eqb-true q v e in omega arith
    by q false e any =
        let within : place_among order q < length order = ltb-true _ _ (sym (among_by_place order q) ∙ sym (among_any order q) ∙ any) in
        subst (λ w. w < bound) (stands_in_place order q within) (below (place_among order q))

-- ---- one more variable

pub met_before : (order : List ℕ) (v : ℕ) → place_among order v < length order → order ≡ with_each order (v ∷ [])
met_before order v before = sym (ap (λ b. cond b order (order ++ v ∷ [])) (among_by_place order v ∙ lt-ltb _ _ before))

pub met_now : (order : List ℕ) (v : ℕ) → length order ≤ place_among order v → order ++ v ∷ [] ≡ with_each order (v ∷ [])
met_now order v now = sym (ap (λ b. cond b order (order ++ v ∷ [])) (among_by_place order v ∙ not_less (place_among order v) (length order) now))
  where
    not_less : (m n : ℕ) → n ≤ m → nat_lt m n ≡ false
    not_less m n h = grind arith

pub placed_with : (order old new : List ℕ) (v place : ℕ) → ArePlaced order old → ((w : ℕ) → get_or new w 0 ≡ get_or old w 0)
    → v < length new → place ≡ place_among order v → length order ≤ place
    → ArePlaced (order ++ v ∷ []) (set new v place)
placed_with order old new v place placed same within is missing k below = by (cases_lt k (length order))
  where
    by : (k < length order) ⊎ (length order ≤ k) → get_or (set new v place) (get_or (order ++ v ∷ []) k 0) 0 ≡ k
    by (inl before) =
        let other : get_or order k 0 ≢ v = λ at. let first : place_among order v ≤ k = place_is_first order v k before at in omega arith in
        ap (λ w. get_or (set new v place) w 0) (get_or_append_left order (v ∷ []) 0 k before)
        ∙ get_or-set_other new v (get_or order k 0) place 0 other ∙ same (get_or order k 0) ∙ placed k before
    by (inr after) =
        let most : place_among order v ≤ length order = place_within order v in
        let room : k < length order + 1 = omega (arith, length-append order (v ∷ []), below) in
        let last : k ≡ length order = omega arith in
        ap (λ w. get_or (set new v place) w 0) (ap (λ n. get_or (order ++ v ∷ []) n 0) last ∙ get_or-append_seam order v [] 0)
        ∙ get_or-set_same new v place 0 within ∙ omega arith

-- ---- names

place_here : (order places : List ℕ) (k : ℕ) → ArePlaced order places → k < length order → place_among order (get_or order k 0) ≡ k
place_here order places k placed within =
    let first : place_among order (get_or order k 0) ≤ k = place_is_first order (get_or order k 0) k within refl in
    let below : place_among order (get_or order k 0) < length order = omega arith in
    sym (placed (place_among order (get_or order k 0)) below) ∙ ap (λ w. get_or places w 0) (stands_in_place order (get_or order k 0) below) ∙ placed k within

-- the name of a variable comes after those of the variables before it
pub named : (order places : List ℕ) (names more : List Sym) (name : Sym) (k number v : ℕ) → ArePlaced order places → k < length order
    → v ≡ get_or order k 0 → number ≡ place_among order v → name ≡ Int (pos (number + 1)) → more ≡ names ++ name ∷ []
    → more ++ numbers_from (suc (k + 1)) (drop (k + 1) order) ≡ names ++ numbers_from (suc k) (drop k order)
named order places names more name k number v placed within at numbered is longer =
    let here : number ≡ k = numbered ∙ ap (place_among order) at ∙ place_here order places k placed within in
    let called : name ≡ Int (pos (suc k)) = is ∙ ap (λ n. Int (pos n)) (omega arith) in
    ap (λ xs. xs ++ numbers_from (suc (k + 1)) (drop (k + 1) order)) longer ∙ append_assoc names (name ∷ []) (numbers_from (suc (k + 1)) (drop (k + 1) order))
    ∙ ap (λ xs. names ++ xs)
    (ap (λ n. n ∷ numbers_from (suc (k + 1)) (drop (k + 1) order)) called ∙ ap (λ n. Int (pos (suc k)) ∷ numbers_from (suc n) (drop n order)) (add-one k)
    ∙ ap (numbers_from (suc k)) (sym (drop-cons order k 0 within)))
