-- The places of variables in the order of their first occurrence are numbers of that order, under the same names.
use Rattle.std.specs.Prelude.{if◌then◌else◌, map, nat_lt}
use Rattle.std.proofs.Common.{◌≡◌, refl, sym, ◌∙◌, ap, ap₂, true, false, [], ◌∷◌, ◌++◌, List, ℕ, suc, Bool, ◌||◌, ◌==◌, ◌<◌, ◌≤◌, Some, None, length, length-append, arith}
use Rattle.std.proofs.lemmas.Bool.{eqb-true}
use Rattle.std.proofs.lemmas.Bool.Decides.{nat_tests}
use Rattle.soar_sym.specs.declared.symbol.Sym.{Sym}
use Rattle.soar_rule.specs.Canonical.{place_among}
use Rattle.soar_rule.specs.Variables.{is_among, with_each}
use Rattle.defs_read.specs.PrintingConditions.{name_at}
use Rattle.reading_laws.specs.Printable.{met_after}
use Rattle.rule_laws.proofs.OccurrenceLaws.{each_behind}
use Rattle.rule_laws.proofs.OccurrencePlaces.{place_within, place_front, place_next}

-- ---- names

-- under its place a variable has the name that it had
pub place_name : (vars : List Sym) (order : List ℕ) (v : ℕ) → is_among order v ≡ true → name_at (map (name_at vars) order) (place_among order v) ≡ name_at vars v
place_name vars [] v e = absurd (cc)
place_name vars (w ∷ order) v e = by (v == w) refl e (place_name vars order v)
  where
    by : (b : Bool) → (v == w) ≡ b → (b || is_among order v) ≡ true → (is_among order v ≡ true → name_at (map (name_at vars) order) (place_among order v) ≡ name_at vars v)
        → name_at (name_at vars w ∷ map (name_at vars) order) (if b then 0 else suc (place_among order v)) ≡ name_at vars v
    by true f g later = ap (name_at vars) (sym (eqb-true v w f))
    by false f g later = later g

-- ---- numbers in order

next_number : (k : ℕ) → nat_lt k k ≡ false
next_number k = grind (arith, nat_tests)

own_number : (k : ℕ) → (k == k) ≡ true
own_number k = grind (arith, nat_tests)

met_already : (v k : ℕ) → v < k → nat_lt v k ≡ true
met_already v k l = grind (arith, nat_tests)

-- numbered by place, each variable is one of those before or the next
pub numbered_from : (order seen vs : List ℕ) → with_each seen vs ≡ order → met_after (length seen) (map (place_among order) vs) ≡ Some (length order)
numbered_from order seen [] e = ap (λ l. Some (length l)) e
numbered_from order seen (v ∷ vs) e = by (is_among seen v) refl e (numbered_from order seen vs) (numbered_from order (seen ++ (v ∷ [])) vs)
  where
    place : ℕ
    place = place_among order v

    longer : length (seen ++ (v ∷ [])) ≡ suc (length seen)
    longer = omega (arith, length-append seen (v ∷ []))

    by : (b : Bool) → is_among seen v ≡ b → with_each (if b then seen else seen ++ (v ∷ [])) vs ≡ order
        → (with_each seen vs ≡ order → met_after (length seen) (map (place_among order) vs) ≡ Some (length order))
        → (with_each (seen ++ (v ∷ [])) vs ≡ order → met_after (length (seen ++ (v ∷ []))) (map (place_among order) vs) ≡ Some (length order))
        → met_after (length seen) (place ∷ map (place_among order) vs) ≡ Some (length order)
    by true f g old new =
        let behind = each_behind seen vs in
        let same : place ≡ place_among seen v = ap (λ l. place_among l v) (sym g ∙ behind.1) ∙ place_front seen behind.0 v f in
        let less : place < length seen = (let l = place_within seen v f in omega arith) in
        ap (λ b. if b then met_after (length seen) (map (place_among order) vs) else if place == length seen then met_after (suc (length seen)) (map (place_among order) vs) else None)
        (met_already place (length seen) less)
        ∙ old g
    by false f g old new =
        let behind = each_behind (seen ++ (v ∷ [])) vs in
        let same : place ≡ length seen = ap (λ l. place_among l v) (sym g ∙ behind.1 ∙ append_to seen v behind.0) ∙ place_next seen behind.0 v f in
        ap (λ n. met_after (length seen) (n ∷ map (place_among order) vs)) same
        ∙ ap₂ (λ b c. if b then met_after (length seen) (map (place_among order) vs) else if c then met_after (suc (length seen)) (map (place_among order) vs) else None)
        (next_number (length seen)) (own_number (length seen))
        ∙ ap (λ n. met_after n (map (place_among order) vs)) (sym longer) ∙ new g
      where
        append_to : (xs : List ℕ) (v : ℕ) (ys : List ℕ) → (xs ++ (v ∷ [])) ++ ys ≡ xs ++ (v ∷ ys)
        append_to [] v ys = refl
        append_to (x ∷ xs) v ys = ap (λ l. x ∷ l) (append_to xs v ys)

-- variables that are numbered so have numbers below their count
pub met_below : (k m : ℕ) (vs : List ℕ) → met_after k vs ≡ Some m → (k ≤ m) × ((v : ℕ) → is_among vs v ≡ true → v < m)
met_below k m [] e = let same : k ≡ m = cc in (omega arith, λ v f. absurd (cc))
met_below k m (w ∷ vs) e = by (nat_lt w k) (w == k) refl refl e (met_below k m vs) (met_below (suc k) m vs)
  where
    here : (v : ℕ) → w < m → ((u : ℕ) → is_among vs u ≡ true → u < m) → (b : Bool) → (v == w) ≡ b → (b || is_among vs v) ≡ true → v < m
    here v l later true f g = let same = eqb-true v w f in omega arith
    here v l later false f g = later v g

    by : (b c : Bool) → nat_lt w k ≡ b → (w == k) ≡ c → (if b then met_after k vs else if c then met_after (suc k) vs else None) ≡ Some m
        → (met_after k vs ≡ Some m → (k ≤ m) × ((v : ℕ) → is_among vs v ≡ true → v < m))
        → (met_after (suc k) vs ≡ Some m → (suc k ≤ m) × ((v : ℕ) → is_among vs v ≡ true → v < m))
        → (k ≤ m) × ((v : ℕ) → (v == w || is_among vs v) ≡ true → v < m)
    by true c f g h old new =
        let later = old h in
        let l : w < k = grind (arith, nat_tests) in
        (later.0, λ v. here v (let p = later.0 in omega arith) later.1 (v == w) refl)
    by false true f g h old new =
        let later = new h in
        let same = eqb-true w k g in
        let p = later.0 in
        (omega arith, λ v. here v (omega arith) later.1 (v == w) refl)
    by false false f g h old new = absurd (cc)
