-- With a hundred goals at most, what levels tell is the level.
use Rattle.std.proofs.Common.{◌≡◌, refl, ◌∙◌, ap, ℕ, suc, ◌+◌, ◌-◌, ◌^◌, ◌≤◌, min, arith, Bool, true, false, cond, List, [], ◌∷◌, length, map, Option, Some, None, option_map}
use Rattle.std.proofs.lemmas.List.{length-map}
use Rattle.soar_sym.specs.Equality.{symbol_eq}
use Rattle.soar_sym.specs.declared.symbol.Sym.{Sym}
use Rattle.soar_sym.specs.declared.symbol.Triple.{Triple}
use Rattle.soar_wm.specs.WorkingMemory.{triple_of}
use Rattle.chunk_results.specs.Reached.{TellsReach}
use Rattle.defs_soar.specs.declared.goal.Goal.{Goal}
use Rattle.defs_soar.specs.Goals.{goal_ids}
use Rattle.defs_soar.specs.Levels.{first_place, level, or_reached, reached_from, reaches}
use Rattle.defs_soar.specs.Sorted.{has_symbol}
use Rattle.level_laws.specs.Labels.{as_told}
use Rattle.firing_records.specs.Kept.{KeptOf, level_in_kept}
use Rattle.firing_records.specs.Levels.{TellsLevels}
use Rattle.firing_records.specs.Recorded.{Standing, reach_of}

-- a place is within the list
place_low : {A : Type 0} (p : A → Bool) (n k : ℕ) (xs : List A) → first_place p n xs ≡ Some k → k ≤ n + length xs
place_low p n k [] q = absurd (cc)
place_low p n k (x ∷ xs) q = go (p x) q (place_low p (suc n) k xs)
  where
    go : (b : Bool) → cond b (Some n) (first_place p (suc n) xs) ≡ Some k → (first_place p (suc n) xs ≡ Some k → k ≤ suc n + length xs) → k ≤ n + suc (length xs)
    go true e later = let same : n ≡ k = cc in omega arith
    go false e later = let low : k ≤ suc n + length xs = later e in omega arith

abbrev IsLow : ℕ → Option ℕ → Type 0
IsLow most o = (k : ℕ) → o ≡ Some k → k ≤ most

or_low : (most : ℕ) (o p : Option ℕ) → IsLow most o → IsLow most p → IsLow most (or_reached o p)
or_low most None p h k n q = k n q
or_low most (Some m) p h k n q = h n q

ids_many : (goals : List Goal) → length (goal_ids goals) ≡ length goals
ids_many [] = refl
ids_many (g ∷ goals) = ap suc (ids_many goals)

level_low : (goals : List Goal) (triples : List Triple) (s : Sym) → IsLow (1 + length goals) (level goals triples s)
level_low goals triples s =
    or_low (1 + length goals) (first_place (symbol_eq s) 1 (goal_ids goals)) (first_place (λ reached. has_symbol reached s) 1 (reaches goals triples))
    (λ k q. let low = place_low (symbol_eq s) 1 k (goal_ids goals) q in let many = ids_many goals in omega arith)
    (λ k q.
    let low = place_low (λ (reached : List Sym). has_symbol reached s) 1 k (reaches goals triples) q in
    let many = ids_many goals in
    let as_many : length (reaches goals triples) ≡ length (goal_ids goals) = length-map (goal_ids goals) (reached_from (goal_ids goals) triples) in omega arith)

same_answer : (o : Option ℕ) → IsLow 101 o → option_map as_told o ≡ o
same_answer None h = refl
same_answer (Some n) h = let low : n ≤ 101 = h n refl in let same : min n (2 ^ 32 - 1) ≡ n = grind arith in ap Some same

-- so what is told of levels is what was reached
pub tells_reach : (levels : KeptOf) (s : Standing) → length s.goals ≤ 100 → TellsLevels levels s.goals (map triple_of s.elements) → TellsReach (level_in_kept levels) (reach_of s)
tells_reach levels s few tells symbol =
    tells symbol ∙ same_answer (level s.goals (map triple_of s.elements) symbol) (λ k q. let low = level_low s.goals (map triple_of s.elements) symbol k q in omega arith)
