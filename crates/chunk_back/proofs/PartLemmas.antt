-- The uses of firings, number by number.
use Rattle.std.proofs.Common.{◌≡◌, refl, sym, ◌∙◌, ap, ℕ, List, [], ◌∷◌, ◌++◌, flat_map, append_assoc, Some, None, ◌-◌, ◌<◌, ◌≤◌, suc, arith, drop, drop-cons, get_or, length}
use Rattle.std.proofs.lemmas.List.{append-nil}
use Rattle.std.specs.List.{slice_get}
use Rattle.soar_wm.specs.declared.element.Element.{Element}
use Rattle.defs_soar.specs.declared.firing.Used.{Used}
use Rattle.defs_soar.specs.Explanation.{at_its_tag, by_tag, firing_of, namings_in_order, TagNaming, with_naming}
use Rattle.defs_soar.specs.History.{FiringOf}
use Rattle.defs_soar.specs.Standing.{AreFrom}
use Rattle.chunk_back.specs.Parts.{uses_at, uses_of, with_elements, with_namings}
use Rattle.chunk_back.proofs.WalkLemmas.{only_one}

pub flat_more : {A B : Type 0} (f : A → List B) (xs ys : List A) → flat_map f (xs ++ ys) ≡ flat_map f xs ++ flat_map f ys
flat_more f [] ys = refl
flat_more f (x ∷ xs) ys = ap (λ l. f x ++ l) (flat_more f xs ys) ∙ sym (append_assoc (f x) (flat_map f xs) (flat_map f ys))

-- the uses of one number more
pub uses_more : (firings : List FiringOf) (n : ℕ) (ns : List ℕ) → uses_of firings (n ∷ ns) ≡ uses_at firings n ++ uses_of firings ns
uses_more firings n ns = flat_more (λ (f : FiringOf). f.used) (firing_of firings n) (flat_map (firing_of firings) ns)

-- the uses of one number, with a firing there and with none
pub uses_of_one : (firings : List FiringOf) → AreFrom firings firings → (n : ℕ) (f : FiringOf) → Some f ≡ slice_get (firing_of firings n) 0 → uses_at firings n ≡ f.used
uses_of_one firings once n f e = ap (flat_map (λ (g : FiringOf). g.used)) (only_one firings once n (Some f) e) ∙ append-nil f.used

pub uses_of_none : (firings : List FiringOf) → AreFrom firings firings → (n : ℕ) → None ≡ slice_get (firing_of firings n) 0 → uses_at firings n ≡ []
uses_of_none firings once n e = ap (flat_map (λ (g : FiringOf). g.used)) (only_one firings once n None e)

tags_more : (es fs : List Element) → with_elements es (by_tag fs) ≡ by_tag (es ++ fs)
tags_more [] fs = refl
tags_more (e ∷ es) fs = ap (at_its_tag e) (tags_more es fs)

-- elements of one number more
pub elements_more : (firings : List FiringOf) (of : Used → List Element) (n : ℕ) (ns : List ℕ) → with_elements (flat_map of (uses_at firings n)) (by_tag (flat_map of (uses_of firings ns))) ≡ by_tag (flat_map of (uses_of firings (n ∷ ns)))
elements_more firings of n ns =
    tags_more (flat_map of (uses_at firings n)) (flat_map of (uses_of firings ns)) ∙ ap by_tag (sym (flat_more of (uses_at firings n) (uses_of firings ns)) ∙ ap (flat_map of) (sym (uses_more firings n ns)))

-- the numbers from a place on are the one before it and the others
pub from_place : (numbers : List ℕ) (at : ℕ) → 0 < at → at ≤ length numbers → drop (at - 1) numbers ≡ get_or numbers (at - 1) 0 ∷ drop at numbers
from_place numbers at low high = let e : suc (at - 1) ≡ at = omega arith in drop-cons numbers (at - 1) 0 (omega arith) ∙ ap (λ n. get_or numbers (at - 1) 0 ∷ drop n numbers) e

pub elements_before : (firings : List FiringOf) (of : Used → List Element) (numbers : List ℕ) (at : ℕ) → 0 < at → at ≤ length numbers
    → with_elements (flat_map of (uses_at firings (get_or numbers (at - 1) 0))) (by_tag (flat_map of (uses_of firings (drop at numbers)))) ≡ by_tag (flat_map of (uses_of firings (drop (at - 1) numbers)))
elements_before firings of numbers at low high =
    elements_more firings of (get_or numbers (at - 1) 0) (drop at numbers) ∙ ap (λ (ns : List ℕ). by_tag (flat_map of (uses_of firings ns))) (sym (from_place numbers at low high))

-- ---- namings

pub in_order_more : (ns ms : List TagNaming) → with_namings ns (namings_in_order ms) ≡ namings_in_order (ns ++ ms)
in_order_more [] ms = refl
in_order_more (n ∷ ns) ms = ap (with_naming n) (in_order_more ns ms)

pub in_order_alone : (ns : List TagNaming) → with_namings ns [] ≡ namings_in_order ns
in_order_alone [] = refl
in_order_alone (n ∷ ns) = ap (with_naming n) (in_order_alone ns)

pub namings_before : (firings : List FiringOf) (of : Used → List TagNaming) (numbers : List ℕ) (at : ℕ) → 0 < at → at ≤ length numbers
    → with_namings (flat_map of (uses_at firings (get_or numbers (at - 1) 0))) (namings_in_order (flat_map of (uses_of firings (drop at numbers)))) ≡ namings_in_order (flat_map of (uses_of firings (drop (at - 1) numbers)))
namings_before firings of numbers at low high =
    let n = get_or numbers (at - 1) 0 in
    let ns = drop at numbers in
    in_order_more (flat_map of (uses_at firings n)) (flat_map of (uses_of firings ns)) ∙ ap namings_in_order (sym (flat_more of (uses_at firings n) (uses_of firings ns)) ∙ ap (flat_map of) (sym (uses_more firings n ns)))
    ∙ ap (λ (ks : List ℕ). namings_in_order (flat_map of (uses_of firings ks))) (sym (from_place numbers at low high))
