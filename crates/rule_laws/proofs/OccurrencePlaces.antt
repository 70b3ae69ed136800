-- The places of variables in the order of their first occurrence.
use Rattle.std.specs.Prelude.{if◌then◌else◌}
use Rattle.std.proofs.Common.{◌≡◌, refl, sym, ◌∙◌, ap, true, false, [], ◌∷◌, ◌++◌, List, ℕ, zero, suc, Bool, ◌||◌, ◌==◌, ◌<◌, length, get_or, arith}
use Rattle.std.proofs.lemmas.Bool.{eqb-true}
use Rattle.std.proofs.lemmas.Bool.Decides.{nat_tests}
use Rattle.soar_rule.specs.Canonical.{place_among}
use Rattle.soar_rule.specs.Variables.{is_among}
use Rattle.rule_laws.proofs.OccurrenceLaws.{NoneTwice}

pub place_within : (vs : List ℕ) (v : ℕ) → is_among vs v ≡ true → place_among vs v < length vs
place_within [] v e = absurd (cc)
place_within (w ∷ vs) v e = by (v == w) e (place_within vs v)
  where
    by : (b : Bool) → (b || is_among vs v) ≡ true → (is_among vs v ≡ true → place_among vs v < length vs) → (if b then 0 else suc (place_among vs v)) < suc (length vs)
    by true f later = omega arith
    by false f later = let l = later f in omega arith

pub place_front : (vs ws : List ℕ) (v : ℕ) → is_among vs v ≡ true → place_among (vs ++ ws) v ≡ place_among vs v
place_front [] ws v e = absurd (cc)
place_front (w ∷ vs) ws v e = by (v == w) e (place_front vs ws v)
  where
    by : (b : Bool) → (b || is_among vs v) ≡ true → (is_among vs v ≡ true → place_among (vs ++ ws) v ≡ place_among vs v)
        → (if b then 0 else suc (place_among (vs ++ ws) v)) ≡ (if b then 0 else suc (place_among vs v))
    by true f later = refl
    by false f later = ap suc (later f)

pub place_next : (vs ws : List ℕ) (v : ℕ) → is_among vs v ≡ false → place_among (vs ++ (v ∷ ws)) v ≡ length vs
place_next [] ws v e = grind (arith, nat_tests)
place_next (w ∷ vs) ws v e = by (v == w) e (place_next vs ws v)
  where
    by : (b : Bool) → (b || is_among vs v) ≡ false → (is_among vs v ≡ false → place_among (vs ++ (v ∷ ws)) v ≡ length vs)
        → (if b then 0 else suc (place_among (vs ++ (v ∷ ws)) v)) ≡ suc (length vs)
    by true f later = absurd (cc)
    by false f later = ap suc (later f)

-- two variables have two places
pub place_apart : (order : List ℕ) (v w : ℕ) → is_among order v ≡ true → is_among order w ≡ true → place_among order v ≡ place_among order w → v ≡ w
place_apart [] v w e f same = absurd (cc)
place_apart (u ∷ order) v w e f same = by (v == u) (w == u) refl refl e f same (place_apart order v w)
  where
    by : (b c : Bool) → (v == u) ≡ b → (w == u) ≡ c → (b || is_among order v) ≡ true → (c || is_among order w) ≡ true
        → (if b then 0 else suc (place_among order v)) ≡ (if c then 0 else suc (place_among order w))
        → (is_among order v ≡ true → is_among order w ≡ true → place_among order v ≡ place_among order w → v ≡ w) → v ≡ w
    by true true g h k l p later = eqb-true v u g ∙ sym (eqb-true w u h)
    by true false g h k l p later = absurd (cc)
    by false true g h k l p later = absurd (cc)
    by false false g h k l p later = later k l (let q = p in omega arith)

-- ---- what stands at a place

-- at its place stands the variable
pub at_its_place : (order : List ℕ) (v : ℕ) → is_among order v ≡ true → get_or order (place_among order v) 0 ≡ v
at_its_place [] v e = absurd (cc)
at_its_place (w ∷ order) v e = by (v == w) refl e (at_its_place order v)
  where
    by : (b : Bool) → (v == w) ≡ b → (b || is_among order v) ≡ true → (is_among order v ≡ true → get_or order (place_among order v) 0 ≡ v)
        → get_or (w ∷ order) (if b then 0 else suc (place_among order v)) 0 ≡ v
    by true f g later = sym (eqb-true v w f)
    by false f g later = later g

-- what stands at a place is among them
stands_among : (order : List ℕ) (n : ℕ) → n < length order → is_among order (get_or order n 0) ≡ true
stands_among [] n l = absurd (omega arith)
stands_among (w ∷ order) zero l = ap (λ b. b || is_among order w) (own w)
  where
    own : (k : ℕ) → (k == k) ≡ true
    own k = grind (arith, nat_tests)
stands_among (w ∷ order) (suc n) l = by (get_or order n 0 == w) (stands_among order n (omega arith))
  where
    by : (b : Bool) → is_among order (get_or order n 0) ≡ true → (b || is_among order (get_or order n 0)) ≡ true
    by true e = refl
    by false e = e

-- where none stands twice, a place is that of what stands there
pub place_of_it : (order : List ℕ) (n : ℕ) → NoneTwice order → n < length order → place_among order (get_or order n 0) ≡ n
place_of_it [] n h l = absurd (omega arith)
place_of_it (w ∷ order) zero h l = grind (arith, nat_tests)
place_of_it (w ∷ order) (suc n) h l = by (get_or order n 0 == w) refl (place_of_it order n h.1 (omega arith))
  where
    by : (b : Bool) → (get_or order n 0 == w) ≡ b → place_among order (get_or order n 0) ≡ n → (if b then 0 else suc (place_among order (get_or order n 0))) ≡ suc n
    by true e later = absurd (let there = stands_among order n (omega arith) in let same = ap (is_among order) (eqb-true (get_or order n 0) w e) in let none = h.0 in cc)
    by false e later = ap suc later
