-- The order that a name makes.
use Rattle.std.proofs.Common.{◌≡◌, ℕ, false, nat_lt, List, [], ◌∷◌, length, Ok, refl, arith}
use Rattle.std.proofs.lemmas.Bool.Decides.{nat_tests}
use Rattle.std.proofs.lemmas.Str.{utf8_valid_len-IsUtf8}
use Rattle.std.specs.Prelude.{◌==◌}
use Rattle.std.specs.Str.{IsUtf8}
use Rattle.std.specs.Str.Lossy.{utf8_valid_len}
use Rattle.defs_text.specs.Runs.{is_empty}
use Rattle.defs_run.specs.Orders.{source}
use Rattle.defs_run.specs.WholeReading.{source_order}

some_bytes : (name : List ℕ) → (length name == 0) ≡ false → is_empty name ≡ false
some_bytes [] is = absurd (cc)
some_bytes (b ∷ name) is = refl

-- a text that is not empty
pub text_named : (text name : List ℕ) → IsUtf8 name → (length name == 0) ≡ false → source_order text name ≡ Ok (source name)
text_named text name is some =
    let whole : nat_lt (utf8_valid_len name) (length name) ≡ false = grind (arith, nat_tests, utf8_valid_len-IsUtf8 name is) in
    rw whole (rw (some_bytes name some) refl)
