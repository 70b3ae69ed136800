-- The step of a fingerprint, as the code takes it.
use Rattle.std.proofs.Common.{◌≡◌, ℕ, ◌+◌, ◌*◌, ◌%◌, ◌^◌, refl}
use Rattle.body_marks.specs.Fingerprint.{after_number}

pub number_is : (n mark : ℕ) → (mark * 6364136223846793005 % 2 ^ 64 + n) % 2 ^ 64 ≡ after_number n mark
unfolding after_number
number_is n mark = refl
