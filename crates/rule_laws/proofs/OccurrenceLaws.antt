-- Variables in the order of their first occurrence: the same variables, and none twice.
use Rattle.std.specs.Prelude.{if◌then◌else◌}
use Rattle.std.proofs.Common.{◌≡◌, refl, sym, ◌∙◌, ap, true, false, [], ◌∷◌, ◌++◌, List, ℕ, zero, suc, Bool, ◌||◌, ◌==◌, ◌<◌, ◌≤◌, length, append_assoc, arith, eq-eqb}
use Rattle.std.proofs.lemmas.Bool.{eqb-true, eqb-false}
use Rattle.soar_rule.specs.Variables.{is_among, with_each}
use Rattle.soar_rule.proofs.VariableLemmas.{among_joined}

-- ---- the same variables

seen_before : (a b c : Bool) → (b ≡ true → a ≡ true) → (a || c) ≡ (a || (b || c))
seen_before true b c h = refl
seen_before false true c h = absurd (let e = h refl in cc)
seen_before false false c h = refl

seen_now : (a b c : Bool) → ((a || (b || false)) || c) ≡ (a || (b || c))
seen_now true b c = refl
seen_now false true c = refl
seen_now false false c = refl

none_before : (a : Bool) → a ≡ (a || false)
none_before true = refl
none_before false = refl

pub each_among : (seen vs : List ℕ) (v : ℕ) → is_among (with_each seen vs) v ≡ (is_among seen v || is_among vs v)
each_among seen [] v = none_before (is_among seen v)
each_among seen (w ∷ vs) v = by (is_among seen w) refl (each_among seen vs v) (each_among (seen ++ (w ∷ [])) vs v)
  where
    by : (b : Bool) → is_among seen w ≡ b → is_among (with_each seen vs) v ≡ (is_among seen v || is_among vs v)
        → is_among (with_each (seen ++ (w ∷ [])) vs) v ≡ (is_among (seen ++ (w ∷ [])) v || is_among vs v)
        → is_among (with_each (if b then seen else seen ++ (w ∷ [])) vs) v ≡ (is_among seen v || ((v == w) || is_among vs v))
    by true e old new = old ∙ seen_before (is_among seen v) (v == w) (is_among vs v) (λ same. ap (is_among seen) (eqb-true v w same) ∙ e)
    by false e old new = new ∙ ap (λ b. b || is_among vs v) (among_joined seen (w ∷ []) v) ∙ seen_now (is_among seen v) (v == w) (is_among vs v)

-- ---- none twice

-- no variable stands there twice
abbrev pub NoneTwice : List ℕ → Type 0
NoneTwice [] = Unit {0}
NoneTwice (v ∷ vs) = (is_among vs v ≡ false) × NoneTwice vs

one_more : (vs : List ℕ) (w : ℕ) → NoneTwice vs → is_among vs w ≡ false → NoneTwice (vs ++ (w ∷ []))
one_more [] w h e = (refl, tt)
one_more (v ∷ vs) w h e = by (w == v) refl e (one_more vs w h.1)
  where
    other : (b : Bool) → (v == w) ≡ b → (w == v) ≡ false → (b || false) ≡ false
    other true f g = absurd (eqb-false w v g (sym (eqb-true v w f)))
    other false f g = refl

    by : (b : Bool) → (w == v) ≡ b → (b || is_among vs w) ≡ false → (is_among vs w ≡ false → NoneTwice (vs ++ (w ∷ [])))
        → (is_among (vs ++ (w ∷ [])) v ≡ false) × NoneTwice (vs ++ (w ∷ []))
    by true f g later = absurd (cc)
    by false f g later = (among_joined vs (w ∷ []) v ∙ ap (λ b. b || ((v == w) || false)) h.0 ∙ other (v == w) refl f, later g)

pub none_twice : (seen vs : List ℕ) → NoneTwice seen → NoneTwice (with_each seen vs)
none_twice seen [] h = h
none_twice seen (w ∷ vs) h = by (is_among seen w) refl (none_twice seen vs h) (none_twice (seen ++ (w ∷ [])) vs)
  where
    by : (b : Bool) → is_among seen w ≡ b → NoneTwice (with_each seen vs) → (NoneTwice (seen ++ (w ∷ [])) → NoneTwice (with_each (seen ++ (w ∷ [])) vs))
        → NoneTwice (with_each (if b then seen else seen ++ (w ∷ [])) vs)
    by true e old new = old
    by false e old new = new (one_more seen w h e)

-- ---- what was seen stands in front

pub each_behind : (seen vs : List ℕ) → (rest : List ℕ) × (with_each seen vs ≡ seen ++ rest)
each_behind seen [] = ([], no_rest seen)
  where
    no_rest : (seen : List ℕ) → seen ≡ seen ++ []
    no_rest [] = refl
    no_rest (v ∷ vs) = ap (λ l. v ∷ l) (no_rest vs)
each_behind seen (w ∷ vs) = by (is_among seen w) (each_behind seen vs) (each_behind (seen ++ (w ∷ [])) vs)
  where
    by : (b : Bool) → (rest : List ℕ) × (with_each seen vs ≡ seen ++ rest) → (rest : List ℕ) × (with_each (seen ++ (w ∷ [])) vs ≡ (seen ++ (w ∷ [])) ++ rest)
        → (rest : List ℕ) × (with_each (if b then seen else seen ++ (w ∷ [])) vs ≡ seen ++ rest)
    by true old new = old
    by false old new = (w ∷ new.0, new.1 ∙ append_assoc seen (w ∷ []) new.0)

-- ---- no more variables than numbers

pub stands_first : (v : ℕ) (vs : List ℕ) → is_among (v ∷ vs) v ≡ true
stands_first v vs = ap (λ b. b || is_among vs v) (eq-eqb v v refl)

-- the list without the first occurrence of a variable
abbrev without : ℕ → List ℕ → List ℕ
without n [] = []
without n (v ∷ vs) = if n == v then vs else v ∷ without n vs

one_fewer : (n : ℕ) (vs : List ℕ) → length vs ≤ suc (length (without n vs))
one_fewer n [] = omega arith
one_fewer n (v ∷ vs) = by (n == v) (one_fewer n vs)
  where
    by : (b : Bool) → length vs ≤ suc (length (without n vs)) → suc (length vs) ≤ suc (length (if b then vs else v ∷ without n vs))
    by true l = omega arith
    by false l = omega arith

still_apart : (n : ℕ) (vs : List ℕ) (w : ℕ) → is_among vs w ≡ false → is_among (without n vs) w ≡ false
still_apart n [] w e = refl
still_apart n (v ∷ vs) w e = by (w == v) (n == v) refl e (still_apart n vs w)
  where
    by : (b c : Bool) → (w == v) ≡ b → (b || is_among vs w) ≡ false → (is_among vs w ≡ false → is_among (without n vs) w ≡ false)
        → is_among (if c then vs else v ∷ without n vs) w ≡ false
    by true c f g later = absurd (cc)
    by false true f g later = g
    by false false f g later = ap (λ t. t || is_among (without n vs) w) f ∙ later g

still_once : (n : ℕ) (vs : List ℕ) → NoneTwice vs → NoneTwice (without n vs)
still_once n [] h = tt
still_once n (v ∷ vs) h = by (n == v) (still_once n vs h.1)
  where
    by : (b : Bool) → NoneTwice (without n vs) → NoneTwice (if b then vs else v ∷ without n vs)
    by true later = h.1
    by false later = (still_apart n vs v h.0, later)

gone : (n : ℕ) (vs : List ℕ) → NoneTwice vs → is_among (without n vs) n ≡ false
gone n [] h = refl
gone n (v ∷ vs) h = by (n == v) refl (gone n vs h.1)
  where
    by : (b : Bool) → (n == v) ≡ b → is_among (without n vs) n ≡ false → is_among (if b then vs else v ∷ without n vs) n ≡ false
    by true e later = ap (is_among vs) (eqb-true n v e) ∙ h.0
    by false e later = ap (λ c. c || is_among (without n vs) n) e ∙ later

was_among : (n : ℕ) (vs : List ℕ) (w : ℕ) → is_among (without n vs) w ≡ true → is_among vs w ≡ true
was_among n vs w e = by (is_among vs w) refl
  where
    by : (b : Bool) → is_among vs w ≡ b → is_among vs w ≡ true
    by true f = f
    by false f = absurd (let g = still_apart n vs w f in cc)

pub few_below : (n : ℕ) (vs : List ℕ) → NoneTwice vs → ((v : ℕ) → is_among vs v ≡ true → v < n) → length vs ≤ n
few_below zero [] h below = omega arith
few_below zero (v ∷ vs) h below = let l = below v (stands_first v vs) in absurd (omega arith)
few_below (suc n) vs h below =
    let fewer = one_fewer n vs in
    let rest = few_below n (without n vs) (still_once n vs h) less in
    omega arith
  where
    less : (v : ℕ) → is_among (without n vs) v ≡ true → v < n
    less v e = by (v == n) refl
      where
        by : (b : Bool) → (v == n) ≡ b → v < n
        by true f = absurd (let g = gone n vs h in let same = ap (is_among (without n vs)) (eqb-true v n f) in cc)
        by false f = let l = below v (was_among n vs v e) in let apart = eqb-false v n f in omega arith
