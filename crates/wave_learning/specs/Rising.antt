-- Entries of a wave whose firings have rising numbers. No public clause cites this.
use Rattle.std.specs.Prelude.{◌≡◌, ℕ, Bool, true, false, ◌&&◌, ◌==◌, nat_lt, List, [], ◌∷◌, flat_map}
use Rattle.defs_soar.specs.WaveAtHand.{Entry, fired, noted}
use Rattle.wave_learning.specs.Found.{number_in}

-- each number is above the one before, and the first above this
abbrev pub rises_from : ℕ → List ℕ → Bool
rises_from last [] = true
rises_from last (n ∷ numbers) = nat_lt last n && rises_from n numbers

abbrev pub numbers_in : List Entry → List ℕ
numbers_in entries = flat_map number_in entries

abbrev pub AreRising : List Entry → Type 0
AreRising entries = rises_from 0 (numbers_in entries) ≡ true

-- whether it is the entry of a firing of this number
abbrev pub has_number : ℕ → Entry → Bool
has_number n (fired x) = x.firing.number == n
has_number n (noted learning_event) = false
