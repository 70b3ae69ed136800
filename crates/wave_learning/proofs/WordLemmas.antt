-- Names that join the table come to no limit where the table that they leave is within it; else to that of words.
use Rattle.std.proofs.Common.{◌≡◌, ◌<◌, ◌≤◌, refl, ◌∙◌, ap, ℕ, ◌-◌, ◌^◌, nat_lt, Bool, true, false, cond, List, [], ◌∷◌, ◌++◌, length, Option, Some, None, arith, length-append}
use Rattle.soar_sym.specs.Words.{Texts, has_text, with_text}
use Rattle.defs_soar.specs.declared.limit.Which.{Which}
use Rattle.defs_soar.specs.declared.limit.Which.TheVariants as which
use Rattle.defs_soar.specs.CandidateOf.{words_after}
use Rattle.defs_soar.specs.Limits.{first_passed, or_limit}
use Rattle.wave_learning.specs.Course.{totals_of_words}

abbrev passes : Bool → Option Which
passes over = cond over (Some which.Words) None

text_longer : (words : Texts) (text : List ℕ) → length words ≤ length (with_text words text)
text_longer words text = go (has_text words text)
  where
    go : (b : Bool) → length words ≤ length (cond b words (words ++ text ∷ []))
    go true = omega arith
    go false = omega (arith, length-append words (text ∷ []))

longer : (texts : List (List ℕ)) (words : Texts) → length words ≤ length (words_after words texts)
longer [] words = omega arith
longer (text ∷ texts) words = omega (arith, text_longer words text, longer texts (with_text words text))

pub all_within : (texts : List (List ℕ)) (words : Texts) → length (words_after words texts) < 2 ^ 32 → first_passed (totals_of_words words texts) ≡ None
all_within [] words few = refl
all_within (text ∷ texts) words few =
    let most = longer texts (with_text words text) in
    let over : nat_lt 4294967295 (length (with_text words text)) ≡ false = grind arith in
    ap (λ b. or_limit (passes b) (first_passed (totals_of_words (with_text words text) texts))) over ∙ all_within texts (with_text words text) few

pub some_over : (texts : List (List ℕ)) (words : Texts) → length words < 2 ^ 32 → 2 ^ 32 - 1 < length (words_after words texts) → first_passed (totals_of_words words texts) ≡ Some which.Words
some_over [] words few long = absurd (omega arith)
some_over (text ∷ texts) words few long = go (nat_lt 4294967295 (length (with_text words text))) refl (some_over texts (with_text words text))
  where
    go : (b : Bool) → nat_lt 4294967295 (length (with_text words text)) ≡ b
        → (length (with_text words text) < 2 ^ 32 → 2 ^ 32 - 1 < length (words_after (with_text words text) texts) → first_passed (totals_of_words (with_text words text) texts) ≡ Some which.Words)
        → or_limit (passes b) (first_passed (totals_of_words (with_text words text) texts)) ≡ Some which.Words
    go true q later = refl
    go false q later = later (let low : length (with_text words text) ≤ 4294967295 = grind arith in omega arith) long
