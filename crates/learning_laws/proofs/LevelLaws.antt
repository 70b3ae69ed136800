-- What some goal reaches is an identifier, and what the top goal reaches it reaches over the triples that are kept.
use Rattle.std.proofs.Common.{◌≡◌, refl, sym, ◌∙◌, ap, ℕ, suc, ◌≤◌, Bool, true, false, ◌||◌, cond, inl, inr, arith, List, [], ◌∷◌, map, Option, Some, None, is_some}
use Rattle.soar_sym.specs.Equality.{symbol_eq}
use Rattle.soar_sym.specs.declared.symbol.Sym.{Sym}
use Rattle.soar_sym.specs.declared.symbol.Triple.{Triple}
use Rattle.defs_soar.specs.declared.goal.Goal.{Goal}
use Rattle.defs_soar.specs.Goals.{goal_ids, is_goal}
use Rattle.defs_soar.specs.Laws.{at_goal, IsIn, one_more, Walk}
use Rattle.defs_soar.specs.Levels.{first_place, is_level_one, level_in, or_reached, reached_from, reaches}
use Rattle.defs_soar.specs.Sorted.{has_symbol}
use Rattle.defs_soar.specs.Values.{is_identifier}
use Rattle.settling_laws.proofs.ReachLemmas.{reached_is_walked_to}
use Rattle.learning_laws.proofs.Lists.{in_map, in_mapped, symbol_same}

place_some : {A : Type 0} (p : A → Bool) (n : ℕ) (xs : List A) (k : ℕ) → first_place p n xs ≡ Some k → (x : A) × IsIn x xs × (p x ≡ true)
place_some p n [] k h = absurd (cc)
place_some {A} p n (x ∷ xs) k h = go (p x) refl h (place_some p (suc n) xs k)
  where
    go : (b : Bool) → p x ≡ b → cond b (Some n) (first_place p (suc n) xs) ≡ Some k → (first_place p (suc n) xs ≡ Some k → (y : A) × IsIn y xs × (p y ≡ true)) → (y : A) × IsIn y (x ∷ xs) × (p y ≡ true)
    go true q r later = (x, inl refl, q)
    go false q r later = let found = later r in (found.0, inr found.1, found.2)

place_there : {A : Type 0} (p : A → Bool) (n : ℕ) (xs : List A) (x : A) → IsIn x xs → p x ≡ true → (k : ℕ) × (first_place p n xs ≡ Some k)
place_there p n [] x i h = absurd i
place_there p n (y ∷ xs) x (inl e) h = (n, ap (λ b. cond b (Some n) (first_place p (suc n) xs)) (ap p e ∙ h))
place_there p n (y ∷ xs) x (inr i) h = go (p y) (place_there p (suc n) xs x i h)
  where
    go : (b : Bool) → (k : ℕ) × (first_place p (suc n) xs ≡ Some k) → (k : ℕ) × (cond b (Some n) (first_place p (suc n) xs) ≡ Some k)
    go true later = (n, refl)
    go false later = later

place_low : {A : Type 0} (p : A → Bool) (n : ℕ) (xs : List A) (k : ℕ) → first_place p n xs ≡ Some k → n ≤ k
place_low p n [] k h = absurd (cc)
place_low p n (x ∷ xs) k h = go (p x) h (place_low p (suc n) xs k)
  where
    go : (b : Bool) → cond b (Some n) (first_place p (suc n) xs) ≡ Some k → (first_place p (suc n) xs ≡ Some k → suc n ≤ k) → n ≤ k
    go true r later = let e : n ≡ k = cc in omega arith
    go false r later = let l = later r in omega arith

-- ---- identifiers

walk_identifier : (goals : List Sym) (triples : List Triple) (own s : Sym) → is_identifier own ≡ true → Walk goals triples own s → is_identifier s ≡ true
walk_identifier goals triples own s h at_goal = h
walk_identifier goals triples own s h (one_more t i value on walk) = value

some_level : (o : Option ℕ) → is_some o ≡ true → (n : ℕ) × (o ≡ Some n)
some_level None h = absurd (cc)
some_level (Some n) h = (n, refl)

-- what has a level is an identifier, where goals are
pub level_identifier : (goals : List Goal) (triples : List Triple) (s : Sym) → ((g : Goal) → IsIn g goals → is_identifier g.id ≡ true) → is_some (level_in goals (reaches goals triples) s) ≡ true → is_identifier s ≡ true
level_identifier goals triples s ids h = go (first_place (symbol_eq s) 1 (goal_ids goals)) refl h
  where
    reached : (n : ℕ) → first_place (λ r. has_symbol r s) 1 (reaches goals triples) ≡ Some n → is_identifier s ≡ true
    reached n q =
        let some = place_some (λ r. has_symbol r s) 1 (reaches goals triples) n q in
        let own = in_map (reached_from (goal_ids goals) triples) some.0 (goal_ids goals) some.1 in
        let goal = in_map (λ (g : Goal). g.id) own.0 goals own.1 in
        let there : has_symbol (reached_from (goal_ids goals) triples own.0) s ≡ true = ap (λ l. has_symbol l s) own.2 ∙ some.2 in
        walk_identifier (goal_ids goals) triples own.0 s (ap is_identifier (sym goal.2) ∙ ids goal.0 goal.1) ((reached_is_walked_to (goal_ids goals) triples own.0 s).0 there)

    go : (o : Option ℕ) → first_place (symbol_eq s) 1 (goal_ids goals) ≡ o → is_some (or_reached o (first_place (λ r. has_symbol r s) 1 (reaches goals triples))) ≡ true → is_identifier s ≡ true
    go (Some n) q k =
        let some = place_some (symbol_eq s) 1 (goal_ids goals) n q in
        let goal = in_map (λ (g : Goal). g.id) some.0 goals some.1 in ap is_identifier (symbol_same s some.0 some.2 ∙ sym goal.2) ∙ ids goal.0 goal.1
    go None q k = let n = some_level (first_place (λ r. has_symbol r s) 1 (reaches goals triples)) k in reached n.0 n.1

-- a goal has a level
pub goal_level : (goals : List Goal) (reach : List (List Sym)) (s : Sym) → is_goal goals s ≡ true → is_some (level_in goals reach s) ≡ true
goal_level goals reach s h =
    let place = place_of_goal in ap (λ o. is_some (or_reached o (first_place (λ r. has_symbol r s) 1 reach))) place.1
  where
    any_place : (xs : List Sym) (n : ℕ) → has_symbol xs s ≡ true → (k : ℕ) × (first_place (symbol_eq s) n xs ≡ Some k)
    any_place [] n q = absurd (cc)
    any_place (x ∷ xs) n q = by (symbol_eq s x) q (any_place xs (suc n))
      where
        by : (b : Bool) → (b || has_symbol xs s) ≡ true → (has_symbol xs s ≡ true → (k : ℕ) × (first_place (symbol_eq s) (suc n) xs ≡ Some k)) → (k : ℕ) × (cond b (Some n) (first_place (symbol_eq s) (suc n) xs) ≡ Some k)
        by true q later = (n, refl)
        by false q later = later q

    place_of_goal : (k : ℕ) × (first_place (symbol_eq s) 1 (goal_ids goals) ≡ Some k)
    place_of_goal = any_place (goal_ids goals) 1 h

-- what a goal reaches has a level
reached_level : (goals : List Goal) (triples : List Triple) (own s : Sym) → IsIn own (goal_ids goals) → has_symbol (reached_from (goal_ids goals) triples own) s ≡ true
    → is_some (level_in goals (reaches goals triples) s) ≡ true
reached_level goals triples own s i h =
    let place = place_there (λ r. has_symbol r s) 1 (reaches goals triples) (reached_from (goal_ids goals) triples own) (in_mapped (reached_from (goal_ids goals) triples) own (goal_ids goals) i) h in
    go (first_place (symbol_eq s) 1 (goal_ids goals)) (first_place (λ r. has_symbol r s) 1 (reaches goals triples)) place.0 place.1
  where
    go : (o p : Option ℕ) (k : ℕ) → p ≡ Some k → is_some (or_reached o p) ≡ true
    go (Some n) p k q = refl
    go None p k q = ap is_some q

-- ---- over the kept triples

walk_again : (goals : List Goal) (all kept : List Triple) (own s : Sym) → IsIn own (goal_ids goals) → ((t : Triple) → IsIn t all → is_some (level_in goals (reaches goals all) t.id) ≡ true → IsIn t kept)
    → Walk (goal_ids goals) all own s → Walk (goal_ids goals) kept own s
walk_again goals all kept own s i sub at_goal = at_goal
walk_again goals all kept own s i sub (one_more t j value on walk) =
    one_more t (sub t j (reached_level goals all own t.id i ((reached_is_walked_to (goal_ids goals) all own t.id).1 walk))) value on (walk_again goals all kept own t.id i sub walk)

pub level_one_again : (goals : List Goal) (all kept : List Triple) (s : Sym) → ((t : Triple) → IsIn t all → is_some (level_in goals (reaches goals all) t.id) ≡ true → IsIn t kept)
    → is_level_one (level_in goals (reaches goals all) s) ≡ true → is_level_one (level_in goals (reaches goals kept) s) ≡ true
level_one_again [] all kept s sub h = absurd (cc)
level_one_again (top ∷ goals) all kept s sub h = go (first_place (symbol_eq s) 1 (goal_ids (top ∷ goals))) h
  where
    again : has_symbol (reached_from (goal_ids (top ∷ goals)) all top.id) s ≡ true → has_symbol (reached_from (goal_ids (top ∷ goals)) kept top.id) s ≡ true
    again q = (reached_is_walked_to (goal_ids (top ∷ goals)) kept top.id s).1 (walk_again (top ∷ goals) all kept top.id s (inl refl) sub ((reached_is_walked_to (goal_ids (top ∷ goals)) all top.id s).0 q))

    late : (o : Option ℕ) → ((k : ℕ) → o ≡ Some k → 2 ≤ k) → is_level_one o ≡ true → ⊥
    late None low q = absurd (cc)
    late (Some k) low q = let l = low k refl in absurd (grind arith)

    by : (b : Bool) → has_symbol (reached_from (goal_ids (top ∷ goals)) all top.id) s ≡ b → is_level_one (cond b (Some 1) (first_place (λ r. has_symbol r s) 2 (map (reached_from (goal_ids (top ∷ goals)) all) (goal_ids goals)))) ≡ true
        → is_level_one (cond (has_symbol (reached_from (goal_ids (top ∷ goals)) kept top.id) s) (Some 1) (first_place (λ r. has_symbol r s) 2 (map (reached_from (goal_ids (top ∷ goals)) kept) (goal_ids goals)))) ≡ true
    by true q k = ap (λ b. is_level_one (cond b (Some 1) (first_place (λ r. has_symbol r s) 2 (map (reached_from (goal_ids (top ∷ goals)) kept) (goal_ids goals))))) (again q)
    by false q k =
        absurd (late (first_place (λ r. has_symbol r s) 2 (map (reached_from (goal_ids (top ∷ goals)) all) (goal_ids goals))) (λ n z. place_low (λ r. has_symbol r s) 2 (map (reached_from (goal_ids (top ∷ goals)) all) (goal_ids goals)) n z) k)

    go : (o : Option ℕ) → is_level_one (or_reached o (first_place (λ r. has_symbol r s) 1 (reaches (top ∷ goals) all))) ≡ true
        → is_level_one (or_reached o (first_place (λ r. has_symbol r s) 1 (reaches (top ∷ goals) kept))) ≡ true
    go (Some n) k = k
    go None k = by (has_symbol (reached_from (goal_ids (top ∷ goals)) all top.id) s) refl k
