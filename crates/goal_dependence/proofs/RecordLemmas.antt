-- The firings before a wave with those of the wave: each number stands once, and what is found under it.
use Rattle.std.proofs.Common.{◌≡◌, ◌∙◌, refl, sym, ap, subst, ℕ, zero, suc, ◌<◌, ◌≤◌, ◌==◌, ◌||◌, arith, Bool, true, false, cond, inl, inr, List, [], ◌∷◌, ◌++◌, length, take, get_or, append_assoc, append-nil, Some, None}
use Rattle.std.specs.Prelude.{slice_get, slice_index_or}
use Rattle.defs_soar.specs.Explanation.{firing_of}
use Rattle.defs_soar.specs.History.{FiringOf, firing_seen}
use Rattle.defs_soar.specs.Laws.{IsIn}
use Rattle.defs_soar.specs.Standing.{AreFrom}
use Rattle.firing_records.specs.declared.outcome.Recorded.{Recorded}
use Rattle.soar_record.proofs.RecordLemmas.{all_found}
use Rattle.goal_dependence.specs.Numbers.{has_number}
use Rattle.goal_dependence.specs.Remembered.{CanJoin, firings_of}
use Rattle.goal_dependence.proofs.JoinLemmas.{joins_now, joins_on}

pub all_apart : (kept new : List FiringOf) → CanJoin kept new → AreFrom kept kept → AreFrom (kept ++ new) (kept ++ new)
all_apart kept [] join h = subst (λ (l : List FiringOf). AreFrom l l) (sym (append-nil kept)) h
all_apart kept (f ∷ new) join h =
    subst (λ (l : List FiringOf). AreFrom l l) (append_assoc kept (f ∷ []) new)
    (all_apart (kept ++ f ∷ []) new (joins_on kept f new join) (all_found kept f (joins_now kept f new join) kept h))

-- ---- what is found

found_both : (past more : List FiringOf) (n : ℕ) → firing_of (past ++ more) n ≡ firing_of past n ++ firing_of more n
found_both [] more n = refl
found_both (g ∷ past) more n = go (g.number == n) (found_both past more n)
  where
    go : (b : Bool) → firing_of (past ++ more) n ≡ firing_of past n ++ firing_of more n
        → cond b (g ∷ firing_of (past ++ more) n) (firing_of (past ++ more) n) ≡ cond b (g ∷ firing_of past n) (firing_of past n) ++ firing_of more n
    go true q = ap (λ l. g ∷ l) q
    go false q = q

first_of_both : (xs ys : List FiringOf) (g : FiringOf) → Some g ≡ slice_get xs 0 → Some g ≡ slice_get (xs ++ ys) 0
first_of_both [] ys g q = absurd (cc)
first_of_both (x ∷ xs) ys g q = q

none_of_first : (xs ys : List FiringOf) → None ≡ slice_get xs 0 → xs ++ ys ≡ ys
none_of_first [] ys q = refl
none_of_first (x ∷ xs) ys q = absurd (cc)

-- what stood under a number before is the first of both
pub found_past : (past more : List FiringOf) (g : FiringOf) (n : ℕ) → Some g ≡ slice_get (firing_of past n) 0 → Some g ≡ slice_get (firing_of (past ++ more) n) 0
found_past past more g n q = first_of_both (firing_of past n) (firing_of more n) g q ∙ ap (λ l. slice_get l 0) (sym (found_both past more n))

-- else it is what stands there later
pub found_more : (past more : List FiringOf) (n : ℕ) → None ≡ slice_get (firing_of past n) 0 → slice_get (firing_of more n) 0 ≡ slice_get (firing_of (past ++ more) n) 0
found_more past more n q = ap (λ l. slice_get l 0) (sym (none_of_first (firing_of past n) (firing_of more n) q) ∙ sym (found_both past more n))

-- ---- one of the wave

none_so_high : (n : ℕ) (firings : List FiringOf) → ((f : FiringOf) → IsIn f firings → f.number < n) → has_number firings n ≡ false
none_so_high n [] low = refl
none_so_high n (f ∷ firings) low = go (f.number == n) refl (none_so_high n firings (λ g is. low g (inr is)))
  where
    go : (b : Bool) → (f.number == n) ≡ b → has_number firings n ≡ false → (b || has_number firings n) ≡ false
    go true e later = let less : f.number < n = low f (inl refl) in absurd (grind arith)
    go false e later = later

-- no firing before one of the wave has its number
pub none_before : (kept : List FiringOf) (recorded : List Recorded) (i : ℕ) (r : Recorded) → CanJoin kept (firings_of recorded) → i < length recorded → r ≡ get_or recorded i r
    → has_number (kept ++ firings_of (take i recorded)) r.firing.number ≡ false
none_before kept [] i r join within at = absurd (omega (arith, within))
none_before kept (x ∷ recorded) zero r join within at =
    ap (λ l. has_number l r.firing.number) (append-nil kept)
    ∙ none_so_high r.firing.number kept (λ f is.
    let low : f.number ≤ join.last = join.kept_up_to f is in
    let high : join.last < x.firing.number = join.rising.0 in
    let same : r.firing.number ≡ x.firing.number = ap (λ (y : Recorded). y.firing.number) at in omega arith)
none_before kept (x ∷ recorded) (suc i) r join within at =
    ap (λ l. has_number l r.firing.number) (sym (append_assoc kept (firing_seen x.firing ∷ []) (firings_of (take i recorded))))
    ∙ none_before (kept ++ firing_seen x.firing ∷ []) recorded i r (joins_on kept (firing_seen x.firing) (firings_of recorded) join) (omega (arith, within)) at

same_itself : (n : ℕ) → (n == n) ≡ true
same_itself n = grind arith

none_first : (a b : Bool) → (a || b) ≡ false → (a ≡ false) × (b ≡ false)
none_first true b h = absurd (cc)
none_first false b h = (refl, h)

-- so it is found under it
pub first_here : (past : List FiringOf) (wave : List Recorded) (i : ℕ) (r : Recorded) → i < length wave → r ≡ slice_index_or wave i r → has_number (past ++ firings_of (take i wave)) r.firing.number ≡ false
    → Some (firing_seen r.firing) ≡ slice_get (firing_of (past ++ firings_of wave) r.firing.number) 0
first_here (f ∷ past) wave i r within at none =
    let parts = none_first (f.number == r.firing.number) (has_number (past ++ firings_of (take i wave)) r.firing.number) none in
    first_here past wave i r within at parts.1
    ∙ ap (λ b. slice_get (cond b (f ∷ firing_of (past ++ firings_of wave) r.firing.number) (firing_of (past ++ firings_of wave) r.firing.number)) 0) (sym parts.0)
first_here [] [] i r within at none = absurd (omega (arith, within))
first_here [] (x ∷ wave) zero r within at none =
    ap (λ (y : Recorded). Some (firing_seen y.firing)) at
    ∙ ap (λ b. slice_get (cond b (firing_seen x.firing ∷ firing_of (firings_of wave) r.firing.number) (firing_of (firings_of wave) r.firing.number)) 0)
    (sym (same_itself x.firing.number) ∙ ap (λ (y : Recorded). x.firing.number == y.firing.number) (sym at))
first_here [] (x ∷ wave) (suc i) r within at none =
    let parts = none_first (x.firing.number == r.firing.number) (has_number (firings_of (take i wave)) r.firing.number) none in
    first_here [] wave i r (omega (arith, within)) at parts.1
    ∙ ap (λ b. slice_get (cond b (firing_seen x.firing ∷ firing_of (firings_of wave) r.firing.number) (firing_of (firings_of wave) r.firing.number)) 0) (sym parts.0)
