-- The firings of the record with one more.
use Rattle.std.proofs.Common.{◌≡◌, refl, sym, ◌∙◌, ap, ℕ, Bool, true, false, ◌==◌, cond, List, [], ◌∷◌, ◌++◌, Some, None}
use Rattle.std.specs.Prelude.{slice_get}
use Rattle.defs_soar.specs.Explanation.{firing_of}
use Rattle.defs_soar.specs.History.{FiringOf}
use Rattle.explained_firings.specs.Explaining.{with_firing}

found_both : (past more : List FiringOf) (n : ℕ) → firing_of (past ++ more) n ≡ firing_of past n ++ firing_of more n
found_both [] more n = refl
found_both (g ∷ past) more n = go (g.number == n) (found_both past more n)
  where
    go : (b : Bool) → firing_of (past ++ more) n ≡ firing_of past n ++ firing_of more n → cond b (g ∷ firing_of (past ++ more) n) (firing_of (past ++ more) n) ≡ cond b (g ∷ firing_of past n) (firing_of past n) ++ firing_of more n
    go true q = ap (λ l. g ∷ l) q
    go false q = q

first_of_both : (xs ys : List FiringOf) (g : FiringOf) → Some g ≡ slice_get xs 0 → Some g ≡ slice_get (xs ++ ys) 0
first_of_both [] ys g q = absurd (cc)
first_of_both (x ∷ xs) ys g q = q

none_of_first : (xs ys : List FiringOf) → None ≡ slice_get xs 0 → xs ++ ys ≡ ys
none_of_first [] ys q = refl
none_of_first (x ∷ xs) ys q = absurd (cc)

-- what the record has of a number is the first of it
pub found_past : (past : List FiringOf) (f g : FiringOf) (n : ℕ) → Some g ≡ slice_get (firing_of past n) 0 → Some g ≡ slice_get (firing_of (with_firing past f) n) 0
found_past past f g n q = first_of_both (firing_of past n) (firing_of (f ∷ []) n) g q ∙ ap (λ l. slice_get l 0) (sym (found_both past (f ∷ []) n))

-- else the one more is
pub found_own : (past : List FiringOf) (f : FiringOf) (n : ℕ) → None ≡ slice_get (firing_of past n) 0 → slice_get (firing_of (f ∷ []) n) 0 ≡ slice_get (firing_of (with_firing past f) n) 0
found_own past f n q = ap (λ l. slice_get l 0) (sym (none_of_first (firing_of past n) (firing_of (f ∷ []) n) q) ∙ sym (found_both past (f ∷ []) n))
