-- The last number that a letter gave. Crates above cite this file.
use Rattle.std.proofs.Common.{◌≡◌, ℕ, zero, suc, ◌+◌, ◌-◌, ◌≤◌, List, [], ◌∷◌, refl, sym, subst, arith}
use Rattle.std.specs.Prelude.{slice_index, slice_set}
use Rattle.soar_sym.specs.Letters.{last_of, with_last}
use Rattle.soar_fire.specs.Growth.{LettersKeep}
use Rattle.soar_fire.proofs.GrowthLemmas.{letters_next}

-- no number of a letter falls
pub numbers_keep : (letters later : List ℕ) (letter : ℕ) → later ≡ with_last letters letter (last_of letters letter + 1) → LettersKeep letters later
numbers_keep letters later letter is = (letters_next letters later letter is).kept

set_there : (xs : List ℕ) (i v : ℕ) → 1 ≤ slice_index xs i → slice_index (slice_set xs i v) i ≡ v
set_there [] i v there = absurd (omega (arith, there))
set_there (x ∷ xs) zero v there = refl
set_there (x ∷ xs) (suc i) v there = set_there xs i v there

-- where the letter gave a number before, its last is the new one
pub last_given : (letters later : List ℕ) (letter n : ℕ) → 1 ≤ last_of letters letter → later ≡ with_last letters letter n → last_of later letter ≡ n
last_given letters later letter n there is =
    subst (λ l. last_of l letter ≡ n) (sym is) (set_there letters (letter - 65) n there)
