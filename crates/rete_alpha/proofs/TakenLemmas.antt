-- The tags that a pattern takes, each put at its place, are those of the elements in order.
use Rattle.std.proofs.Common.{◌≡◌, ℕ, ◌<◌, ◌≤◌, Bool, true, false, cond, ◌||◌, ◌==◌, List, [], ◌∷◌, map, filter, nat_eq, nat_lt, is_some, refl, sym, ap, ap₂, ◌∙◌, arith, eqb-true, eq-eqb}
use Rattle.std.specs.Cmp.{nat_eq_equiv}
use Rattle.std.specs.List.{IsDistinct, list_any}
use Rattle.std.specs.Map.{keys_of, values_of}
use Rattle.std.proofs.lemmas.Bool.{ltb-true, ltb-false, ne_eqb}
use Rattle.std.proofs.lemmas.Map.Entries.{lookup-filter-values, option_filter}
use Rattle.std.proofs.lemmas.Map.Made.{is_some-lookup}
use Rattle.soar_wm.specs.declared.element.Element.{Element}
use Rattle.rete_alpha.specs.declared.pattern.ConstPattern.{ConstPattern}
use Rattle.rete_alpha.specs.Entries.{OwnTags, in_order}
use Rattle.rete_alpha.specs.Numbers.{IsBelowAll, IsIncreasing, with_number, with_numbers}
use Rattle.rete_alpha.specs.Taking.{keys_taken, tags_taken, takes}
use Rattle.rete_alpha.proofs.ElementLemmas.{Tagged}
use Rattle.rete_alpha.proofs.MemberLemmas.{rising_tags}
use Rattle.rete_alpha.proofs.OrderLemmas.{all_risen, distinct, same_found}
use Rattle.rete_alpha.proofs.SlotLemmas.{rising_with}

-- ---- two rising lists with the same numbers are one

absent : (q n : ℕ) (ms : List ℕ) → q ≤ n → IsBelowAll n ms → list_any (nat_eq q) ms ≡ false
absent q n [] under h = refl
absent q n (m ∷ ms) under h = ap₂ (λ a b. a || b) (ne_eqb q m (λ e. omega (arith, h.0))) (absent q n ms under h.1)

at_head : (n : ℕ) (ns : List ℕ) → list_any (nat_eq n) (n ∷ ns) ≡ true
at_head n ns = ap (λ b. b || list_any (nat_eq n) ns) (eq-eqb n n refl)

-- a number below the first is not there
lacks : (q n : ℕ) (ns : List ℕ) → q < n → IsBelowAll n ns → list_any (nat_eq q) (n ∷ ns) ≡ false
lacks q n ns under h = absent q q (n ∷ ns) (omega arith) (under, lower ns h)
  where
    lower : (ms : List ℕ) → IsBelowAll n ms → IsBelowAll q ms
    lower [] h = tt
    lower (m ∷ ms) h = (omega (arith, h.0), lower ms h.1)

not_both : (b : Bool) → b ≡ true → b ≡ false → ⊥
not_both b here gone = (let bad : true ≡ false = sym here ∙ gone in cc)

heads : (k n : ℕ) (ks ns : List ℕ) → IsBelowAll k ks → IsBelowAll n ns → ((q : ℕ) → list_any (nat_eq q) (k ∷ ks) ≡ list_any (nat_eq q) (n ∷ ns)) → k ≡ n
heads k n ks ns up down same = by (nat_lt k n) (nat_lt n k) refl refl
  where
    by : (a b : Bool) → nat_lt k n ≡ a → nat_lt n k ≡ b → k ≡ n
    by true b p q = absurd (not_both _ (at_head k ks) (same k ∙ lacks k n ns (ltb-true k n p) down))
    by false true p q = absurd (not_both _ (at_head n ns) (sym (same n) ∙ lacks n k ks (ltb-true n k q) up))
    by false false p q = omega (arith, ltb-false k n p, ltb-false n k q)

tails : (q k n : ℕ) (ks ns : List ℕ) → k ≡ n → IsBelowAll k ks → IsBelowAll n ns → list_any (nat_eq q) (k ∷ ks) ≡ list_any (nat_eq q) (n ∷ ns)
    → list_any (nat_eq q) ks ≡ list_any (nat_eq q) ns
tails q k n ks ns is up down same = by (nat_eq q k) refl (ap (λ b. b || list_any (nat_eq q) ks) refl ∙ same ∙ ap (λ m. nat_eq q m || list_any (nat_eq q) ns) (sym is))
  where
    by : (b : Bool) → nat_eq q k ≡ b → (nat_eq q k || list_any (nat_eq q) ks) ≡ (nat_eq q k || list_any (nat_eq q) ns) → list_any (nat_eq q) ks ≡ list_any (nat_eq q) ns
    by true e h =
        let here : q ≡ k = eqb-true q k e in
        absent q k ks (omega (arith, here)) up ∙ sym (absent q n ns (omega (arith, here, is)) down)
    by false e h = ap (λ b. b || list_any (nat_eq q) ks) (sym e) ∙ h ∙ ap (λ b. b || list_any (nat_eq q) ns) e

one_order : (ks ns : List ℕ) → IsIncreasing ks → IsIncreasing ns → ((q : ℕ) → list_any (nat_eq q) ks ≡ list_any (nat_eq q) ns) → ks ≡ ns
one_order [] [] up down same = refl
one_order [] (n ∷ ns) up down same = absurd (not_both _ (at_head n ns) (sym (same n)))
one_order (k ∷ ks) [] up down same = absurd (not_both _ (at_head k ks) (same k))
one_order (k ∷ ks) (n ∷ ns) up down same =
    let is : k ≡ n = heads k n ks ns up.0 down.0 same in
    let rest : ks ≡ ns = one_order ks ns up.1 down.1 (λ q. tails q k n ks ns is up.0 down.0 (same q)) in
    λ i. is i ∷ rest i

-- ---- numbers put at their places one by one

rising_all : (xs ns : List ℕ) → IsIncreasing ns → IsIncreasing (with_numbers xs ns)
rising_all [] ns up = up
rising_all (x ∷ xs) ns up = rising_all xs (with_number x ns) (rising_with x ns up)

twice : (a b : Bool) → (a || b) ≡ (a || (a || b))
twice true b = refl
twice false b = refl

turned : (a b c : Bool) → (a || (b || c)) ≡ (b || (a || c))
turned true true c = refl
turned true false c = refl
turned false b c = refl

among_one : (q x : ℕ) (ns : List ℕ) → list_any (nat_eq q) (with_number x ns) ≡ (nat_eq q x || list_any (nat_eq q) ns)
among_one q x [] = refl
among_one q x (n ∷ ns) = by (x == n) refl (nat_lt x n) (among_one q x ns)
  where
    by : (b : Bool) → (x == n) ≡ b → (d : Bool) → list_any (nat_eq q) (with_number x ns) ≡ (nat_eq q x || list_any (nat_eq q) ns)
        → list_any (nat_eq q) (cond b (n ∷ ns) (cond d (x ∷ n ∷ ns) (n ∷ with_number x ns))) ≡ (nat_eq q x || (nat_eq q n || list_any (nat_eq q) ns))
    by true same d deep = twice (nat_eq q n) (list_any (nat_eq q) ns) ∙ ap (λ k. nat_eq q k || (nat_eq q n || list_any (nat_eq q) ns)) (sym (eqb-true x n same))
    by false same true deep = refl
    by false same false deep = ap (λ b. nat_eq q n || b) deep ∙ turned (nat_eq q n) (nat_eq q x) (list_any (nat_eq q) ns)

among_all : (q : ℕ) (xs ns : List ℕ) → list_any (nat_eq q) (with_numbers xs ns) ≡ (list_any (nat_eq q) ns || list_any (nat_eq q) xs)
among_all q [] ns = none (list_any (nat_eq q) ns)
  where
    none : (b : Bool) → b ≡ (b || false)
    none true = refl
    none false = refl
among_all q (x ∷ xs) ns = among_all q xs (with_number x ns) ∙ ap (λ b. b || list_any (nat_eq q) xs) (among_one q x ns) ∙ grouped (nat_eq q x) (list_any (nat_eq q) ns) (list_any (nat_eq q) xs)
  where
    grouped : (a b c : Bool) → ((a || b) || c) ≡ (b || (a || c))
    grouped true true c = refl
    grouped true false c = refl
    grouped false b c = refl

-- ---- the tags that are taken

tags_are : (q : Element → Bool) (es : Tagged) → OwnTags es → keys_of (filter (λ e. q e.1) es) ≡ map (λ e. e.tag) (filter q (values_of es))
tags_are q [] own = refl
tags_are q (p ∷ es) own = by (q p.1) (tags_are q es own.1)
  where
    by : (b : Bool) → keys_of (filter (λ e. q e.1) es) ≡ map (λ e. e.tag) (filter q (values_of es))
        → keys_of (cond b (p ∷ filter (λ e. q e.1) es) (filter (λ e. q e.1) es)) ≡ map (λ e. e.tag) (cond b (p.1 ∷ filter q (values_of es)) (filter q (values_of es)))
    by true deep = λ i. own.0 i ∷ deep i
    by false deep = deep

same_taken : (q : Element → Bool) (es : Tagged) → IsDistinct nat_eq (keys_of es) → (n : ℕ)
    → list_any (nat_eq n) (keys_of (filter (λ e. q e.1) es)) ≡ list_any (nat_eq n) (keys_of (filter (λ e. q e.1) (in_order es)))
same_taken q es differ n =
    sym (is_some-lookup (nat_eq n) (filter (λ e. q e.1) es))
    ∙ ap is_some
    (lookup-filter-values nat_eq_equiv q n es differ ∙ ap (option_filter q) (sym (same_found es n)) ∙ sym (lookup-filter-values nat_eq_equiv q n (in_order es) (distinct es)))
    ∙ is_some-lookup (nat_eq n) (filter (λ e. q e.1) (in_order es))

pub taken_in_order : (es : Tagged) (p : ConstPattern) → OwnTags (in_order es) → IsDistinct nat_eq (keys_of es) → with_numbers (keys_taken p es) [] ≡ tags_taken p (values_of (in_order es))
taken_in_order es p own differ =
    one_order (with_numbers (keys_taken p es) []) (tags_taken p (values_of (in_order es))) (rising_all (keys_taken p es) [] tt) (rising_tags (takes p) (values_of (in_order es)) (all_risen es own))
    (λ n. among_all n (keys_taken p es) [] ∙ same_taken (takes p) es differ n ∙ ap (list_any (nat_eq n)) (tags_are (takes p) (in_order es) own))
