-- Bars and quotes: the search for the closing byte, and UTF-8 inside.
use Rattle.std.proofs.Common.{◌≡◌, ℕ, ◌+◌, true, false, List, length, get_or, drop, ◌<◌, ◌==◌, Option, Some, None, refl, ap, ◌∙◌, arith}
use Rattle.std.specs.Option.{option_map}
use Rattle.std.specs.Str.{IsUtf8}
use Rattle.std.proofs.lemmas.Str.{utf8_valid_len-IsUtf8}
use Rattle.std.proofs.lemmas.List.{at_drop_more}
use Rattle.std.proofs.lemmas.Bool.Decides.{nat_tests}
use Rattle.defs_text.specs.Quotes.{closing_from, no_utf8}

-- a place counted from another
abbrev pub counted_from : ℕ → Option ℕ → Option ℕ
counted_from at None = None
counted_from at (Some n) = Some (at + n)

-- a place counted from the next byte
pub counted_next : (at : ℕ) (r : Option ℕ) → counted_from at (option_map (λ n. 1 + n) r) ≡ counted_from (at + 1) r
counted_next at None = refl
counted_next at (Some n) = ap Some (omega arith)

-- one byte further behind a backslash
pub closing_behind : (quote at : ℕ) (bytes : List ℕ) → at < length bytes
    → counted_from at (closing_from quote true (drop at bytes)) ≡ counted_from (at + 1) (closing_from quote false (drop (at + 1) bytes))
closing_behind quote at bytes within =
    at_drop_more (λ rest. counted_from at (closing_from quote true rest)) bytes at 0 within ∙ counted_next at _

-- one byte further, past a byte that does not close
pub closing_past : (quote at : ℕ) (bytes : List ℕ) → at < length bytes → (get_or bytes at 0 == quote) ≡ false
    → counted_from at (closing_from quote false (drop at bytes)) ≡ counted_from (at + 1) (closing_from quote (get_or bytes at 0 == 92) (drop (at + 1) bytes))
closing_past quote at bytes within other =
    at_drop_more (λ rest. counted_from at (closing_from quote false rest)) bytes at 0 within
    ∙ ap (λ t. counted_from at (elim t as (λ _. Option ℕ) [ true ↦ Some 0 | false ↦ option_map (λ n. 1 + n) (closing_from quote (get_or bytes at 0 == 92) (drop (at + 1) bytes)) ])) other
    ∙ counted_next at _

pub text_has_no_fault : (bytes : List ℕ) → IsUtf8 bytes → no_utf8 bytes ≡ None
text_has_no_fault bytes text = let e = utf8_valid_len-IsUtf8 bytes text in grind (arith, nat_tests)
