-- Runs by their ends and by their numbers.
use Rattle.std.proofs.Common.{◌≡◌, ℕ, ◌+◌, ◌-◌, suc, ◌*◌, ◌<◌, ◌≤◌, List, [], ◌∷◌, ◌++◌, length, take, drop, get_or, refl, ap, ◌∙◌, arith, length-append, drop-cons}
use Rattle.std.specs.Prelude.{◌==◌}
use Rattle.std.proofs.Math.Seq.{take-append_seam}
use Rattle.defs_text.specs.Runs.{ends_with, front_of, number_from}

pub ends_with_last : (byte : ℕ) (front : List ℕ) (last : ℕ) → ends_with byte (front ++ last ∷ []) ≡ (last == byte)
ends_with_last byte [] last = refl
ends_with_last byte (b ∷ []) last = refl
ends_with_last byte (b ∷ c ∷ front) last = ends_with_last byte (c ∷ front) last

pub front_of_last : (front : List ℕ) (last : ℕ) → front_of (front ++ last ∷ []) ≡ front
front_of_last front last =
    let e : length (front ++ last ∷ []) - 1 ≡ length front = omega (arith, length-append front (last ∷ [])) in
    ap (λ n. take n (front ++ last ∷ [])) e ∙ take-append_seam front (last ∷ [])

-- more digits never make a number smaller
pub number_grows : (n : ℕ) (digits : List ℕ) → n ≤ number_from n digits
number_grows n [] = omega arith
number_grows n (d ∷ digits) = omega (arith, number_grows (n * 10 + (d - 48)) digits)

-- what the next digit already exceeds, the whole number exceeds
pub number_beyond : (limit n i : ℕ) (digits : List ℕ) → i < length digits → limit ≤ n * 10 + (get_or digits i 0 - 48) → limit ≤ number_from n (drop i digits)
number_beyond limit n i digits within beyond =
    rw (drop-cons digits i 0) (omega (arith, number_grows (n * 10 + (get_or digits i 0 - 48)) (drop (suc i) digits)))
