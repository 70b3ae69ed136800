-- As many elements as have a tag up to the last; and chunks among rules as they are kept.
use Rattle.std.proofs.Common.{◌≡◌, ℕ, zero, suc, ◌+◌, ◌<◌, ◌≤◌, ◌∙◌, Bool, true, false, cond, List, [], ◌∷◌, length, map, Some, None, inl, inr, refl, sym, ap, ap₂, subst, arith}
use Rattle.std.proofs.lemmas.Bool.{eq-eqb, ne_eqb}
use Rattle.std.proofs.lemmas.Bool.Decides.{eqb_tells}
use Rattle.soar_wm.specs.WorkingMemory.{IsBelow, IsGiven, IsRising, element_of}
use Rattle.soar_wm.specs.declared.element.Element.{Element}
use Rattle.defs_match.specs.Rules.{RuleOf, rule_seen}
use Rattle.defs_match.specs.declared.rule.Rule.{Rule}
use Rattle.defs_run.specs.Listing.{is_chunk}
use Rattle.soar_cycle.specs.Counting.{chunks_among, count_at}

-- ---- elements by tag

-- as many as have a tag up to this one
abbrev pub count_to : ℕ → List Element → ℕ
count_to zero elements = count_at 0 elements
count_to (suc tag) elements = count_to tag elements + count_at (suc tag) elements

-- what the first of them gives
abbrev tested : ℕ → Element → List Element → Bool → ℕ
tested tag e elements same = elim (cond same (Some e) (element_of tag elements)) as (λ _. ℕ) [ None ↦ 0 | Some f ↦ 1 ]

own : (tag : ℕ) (e : Element) (elements : List Element) → e.tag ≡ tag → count_at tag (e ∷ elements) ≡ 1
own tag e elements is = ap (tested tag e elements) (eq-eqb e.tag tag is)

other : (tag : ℕ) (e : Element) (elements : List Element) → (e.tag ≡ tag → ⊥) → count_at tag (e ∷ elements) ≡ count_at tag elements
other tag e elements differ = ap (tested tag e elements) (ne_eqb e.tag tag differ)

none_below : (tag : ℕ) (elements : List Element) → IsBelow tag elements → count_at tag elements ≡ 0
none_below tag [] below = refl
none_below tag (e ∷ elements) below =
    let differ : e.tag ≡ tag → ⊥ = λ is. let never : ⊥ = omega (arith, is, below.0) in never in other tag e elements differ ∙ none_below tag elements below.1

before_first : (tag : ℕ) (e : Element) (elements : List Element) → tag < e.tag → count_to tag (e ∷ elements) ≡ count_to tag elements
before_first zero e elements h = let differ : e.tag ≡ 0 → ⊥ = λ is. let never : ⊥ = omega (arith, is, h) in never in other 0 e elements differ
before_first (suc tag) e elements h =
    let differ : e.tag ≡ suc tag → ⊥ = λ is. let never : ⊥ = omega (arith, is, h) in never in
    let less : tag < e.tag = omega (arith, h) in ap₂ (λ a b. a + b) (before_first tag e elements less) (other (suc tag) e elements differ)

with_first : (tag : ℕ) (e : Element) (elements : List Element) → IsBelow e.tag elements → e.tag ≤ tag → count_to tag (e ∷ elements) ≡ 1 + count_to tag elements
with_first zero e elements below h =
    let is : e.tag ≡ 0 = omega (arith, h) in
    own 0 e elements is ∙ ap (λ n. 1 + n) (sym (none_below 0 elements (subst (λ n. IsBelow n elements) is below)))
with_first (suc tag) e elements below h = elim (eqb_tells e.tag (suc tag)) [
  | inl p ↦
      let less : tag < e.tag = omega (arith, p.1) in
      let none : count_at (suc tag) elements ≡ 0 = none_below (suc tag) elements (subst (λ n. IsBelow n elements) p.1 below) in
      let here : count_to (suc tag) (e ∷ elements) ≡ count_to tag elements + 1 = ap₂ (λ a b. a + b) (before_first tag e elements less) (own (suc tag) e elements p.1) in
      let goal : count_to (suc tag) (e ∷ elements) ≡ 1 + count_to (suc tag) elements = omega (arith, here, none) in goal
  | inr q ↦
      let within : e.tag ≤ tag = omega (arith, h, q.1) in
      let later : count_to tag (e ∷ elements) ≡ 1 + count_to tag elements = with_first tag e elements below within in
      let same : count_at (suc tag) (e ∷ elements) ≡ count_at (suc tag) elements = other (suc tag) e elements q.1 in
      let goal : count_to (suc tag) (e ∷ elements) ≡ 1 + count_to (suc tag) elements = omega (arith, later, same) in goal
]

-- the last tag counts all
pub counts_all : (last : ℕ) (elements : List Element) → IsRising elements → IsGiven last elements → count_to last elements ≡ length elements
counts_all last [] rising given = nothing last
  where
    nothing : (n : ℕ) → count_to n [] ≡ 0
    nothing zero = refl
    nothing (suc n) = ap (λ m. m + 0) (nothing n)
counts_all last (e ∷ elements) rising given =
    let one : 1 + length elements ≡ suc (length elements) = omega arith in
    with_first last e elements rising.0 given.1 ∙ (ap (λ n. 1 + n) (counts_all last elements rising.1 given.2) ∙ one)

-- ---- chunks among rules, one after the other

-- a rule that is none
pub chunks_on : (rule : Rule) (rest all : List Rule) (count : ℕ) → count + length (chunks_among (map rule_seen (rule ∷ rest))) ≡ length (chunks_among (map rule_seen all))
    → is_chunk rule.production.kind ≡ false → count + length (chunks_among (map rule_seen rest)) ≡ length (chunks_among (map rule_seen all))
chunks_on rule rest all count counted none =
    let more : List RuleOf = chunks_among (map rule_seen rest) in sym (ap (λ b. count + length (cond b (rule_seen rule ∷ more) more)) none) ∙ counted

chunks_short : (rules : List Rule) → length (chunks_among (map rule_seen rules)) ≤ length rules
chunks_short [] = omega arith
chunks_short (rule ∷ rules) = by (is_chunk rule.production.kind) (chunks_short rules)
  where
    by : (b : Bool) → length (chunks_among (map rule_seen rules)) ≤ length rules
        → length (cond b (rule_seen rule ∷ chunks_among (map rule_seen rules)) (chunks_among (map rule_seen rules))) ≤ suc (length rules)
    by true few = omega (arith, few)
    by false few = omega (arith, few)

-- there are no more chunks than rules
pub chunks_few : (rule : Rule) (rest all : List Rule) (count most : ℕ) → count + length (chunks_among (map rule_seen (rule ∷ rest))) ≡ length (chunks_among (map rule_seen all))
    → is_chunk rule.production.kind ≡ true → most ≡ length all → most ≤ count → ⊥
chunks_few rule rest all count most counted one is full =
    let more : List RuleOf = chunks_among (map rule_seen rest) in
    let here : count + suc (length more) ≡ length (chunks_among (map rule_seen all)) = sym (ap (λ b. count + length (cond b (rule_seen rule ∷ more) more)) one) ∙ counted in
    let never : ⊥ = omega (arith, here, chunks_short all, is, full) in never
