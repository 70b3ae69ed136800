-- Keys that compare equal are one.
use Rattle.std.proofs.Common.{◌≡◌, refl, sym, ap, ap₂, ◌∙◌, inl, inr, Bool, true, false, ◌||◌, ◌==◌, ℕ, ◌+◌, nat_eq, eqb-true, List, [], ◌∷◌, ◌++◌, arith}
use Rattle.std.specs.Ordering.{is_eq}
use Rattle.std.specs.Cmp.{tied_itself}
use Rattle.std.specs.Cmp.Lexicographic.{pointwise}
use Rattle.std.specs.List.{list_any}
use Rattle.std.proofs.lemmas.Bool.{and_parts}
use Rattle.defs_match.specs.Laws.{IsIn}
use Rattle.match_changes.specs.contracts.key.MatchKeyOrd.TheImpl.Laws as laws
use Rattle.match_changes.specs.declared.key.MatchKey.{MatchKey}
use Rattle.open_instances.specs.Keys.{alike, times}

pointwise_same : (xs ys : List ℕ) → pointwise nat_eq xs ys ≡ true → xs ≡ ys
pointwise_same [] [] h = refl
pointwise_same [] (y ∷ ys) h = absurd (cc)
pointwise_same (x ∷ xs) [] h = absurd (cc)
pointwise_same (x ∷ xs) (y ∷ ys) h =
    let parts = and_parts (nat_eq x y) (pointwise nat_eq xs ys) h in
    ap₂ (λ a l. a ∷ l) (eqb-true x y parts.0) (pointwise_same xs ys parts.1)

pub alike_same : (a b : MatchKey) → alike a b ≡ true → a ≡ b
alike_same a b h =
    let parts = and_parts (a.rule == b.rule) (pointwise nat_eq a.tags b.tags) (laws.matches_eq-law a b ∙ h) in
    let rule = eqb-true a.rule b.rule parts.0 in
    let tags = pointwise_same a.tags b.tags parts.1 in
    λ i. record { rule = rule i; tags = tags i }

pub alike_itself : (a : MatchKey) → alike a a ≡ true
alike_itself a = ap is_eq (tied_itself laws.total-law a)

pub alike_by : (a b : MatchKey) → a ≡ b → alike a b ≡ true
alike_by a b e = ap (alike a) (sym e) ∙ alike_itself a

-- which of two is asked for the other does not matter
pub alike_back : (a b : MatchKey) → alike a b ≡ alike b a
alike_back a b = by (alike a b) (alike b a) refl refl
  where
    by : (c d : Bool) → alike a b ≡ c → alike b a ≡ d → c ≡ d
    by true true h k = refl
    by false false h k = refl
    by true false h k = (let bad : true ≡ false = sym (alike_by b a (sym (alike_same a b h))) ∙ k in cc)
    by false true h k = (let bad : true ≡ false = sym (alike_by a b (sym (alike_same b a k))) ∙ h in cc)

-- ---- among others

pub in_any : (q : MatchKey) (keys : List MatchKey) → IsIn q keys → list_any (λ k. alike k q) keys ≡ true
in_any q [] h = absurd h
in_any q (k ∷ keys) (inl e) = ap (λ b. b || list_any (λ k. alike k q) keys) (alike_by k q e)
in_any q (k ∷ keys) (inr h) = by (alike k q) (list_any (λ k. alike k q) keys) (in_any q keys h)
  where
    by : (a b : Bool) → b ≡ true → (a || b) ≡ true
    by true b h = refl
    by false b h = h

pub times_append : (q : MatchKey) (xs ys : List MatchKey) → times q (xs ++ ys) ≡ times q xs + times q ys
times_append q [] ys = omega arith
times_append q (x ∷ xs) ys = (let deep = times_append q xs ys in omega (arith, deep))
