-- Texts as they stand in bars, and the numbers of identifiers.
use Rattle.std.proofs.Common.{◌≡◌, ◌≢◌, ℕ, ◌+◌, ◌*◌, ◌-◌, suc, ◌<◌, ◌||◌, Bool, true, false, List, [], ◌∷◌, ◌++◌, length, get_or, drop, refl, ap, sym, ◌∙◌, arith, encode_utf8}
use Rattle.std.specs.Prelude.{◌==◌, nat_le, if◌then◌else◌}
use Rattle.std.proofs.lemmas.List.{append-nil}
use Rattle.std.proofs.lemmas.Str.{encode_ascii, encodes-append, inside_one}
use Rattle.std.proofs.lemmas.Bool.{lt-leb}
use Rattle.std.proofs.lemmas.Bool.Decides.{nat_tests}
use lib.Utf8.{encodes}
use Rattle.defs_text.specs.Quotes.{escaped}
use Rattle.defs_text.specs.Runs.{number_from}
use Rattle.soar_lex.proofs.RunLemmas.{number_beyond}

pub escaped_append : (quote : ℕ) (xs ys : List ℕ) → escaped quote (xs ++ ys) ≡ escaped quote xs ++ escaped quote ys
escaped_append quote [] ys = refl
escaped_append quote (x ∷ xs) ys = by ((x == quote) || (x == 92)) (escaped_append quote xs ys)
  where
    by : (b : Bool) → escaped quote (xs ++ ys) ≡ escaped quote xs ++ escaped quote ys
        → (if b then 92 ∷ (x ∷ escaped quote (xs ++ ys)) else x ∷ escaped quote (xs ++ ys))
        ≡ (if b then 92 ∷ (x ∷ escaped quote xs) else x ∷ escaped quote xs) ++ escaped quote ys
    by true same = ap (λ bytes. 92 ∷ (x ∷ bytes)) same
    by false same = ap (λ bytes. x ∷ bytes) same

-- one letter more
pub escaped_more : (quote : ℕ) (letters : List ℕ) (letter : ℕ)
    → escaped quote (encodes (letters ++ letter ∷ [])) ≡ escaped quote (encodes letters) ++ escaped quote (encode_utf8 letter)
escaped_more quote letters letter =
    ap (escaped quote) (encodes-append letters (letter ∷ []) ∙ ap (λ bytes. encodes letters ++ bytes) (append-nil (encode_utf8 letter)))
    ∙ escaped_append quote (encodes letters) (encode_utf8 letter)

neither : (quote letter b : ℕ) → letter ≢ quote → letter ≢ 92 → quote < 128 → (b < 128 → letter ≡ b) → ((b == quote) || (b == 92)) ≡ false
neither quote letter b no_quote no_backslash ascii same = grind (arith, nat_tests)

-- bytes of which only the letter itself could be a quote or a backslash
escaped_plain : (quote letter : ℕ) (bytes : List ℕ) → letter ≢ quote → letter ≢ 92 → quote < 128
    → ((k : ℕ) → k < length bytes → get_or bytes k 0 < 128 → letter ≡ get_or bytes k 0) → escaped quote bytes ≡ bytes
escaped_plain quote letter [] no_quote no_backslash ascii same = refl
escaped_plain quote letter (b ∷ bytes) no_quote no_backslash ascii same =
    ap (λ t. if t then 92 ∷ (b ∷ escaped quote bytes) else b ∷ escaped quote bytes)
    (neither quote letter b no_quote no_backslash ascii (λ low. same 0 (omega arith) low))
    ∙ ap (λ rest. b ∷ rest) (escaped_plain quote letter bytes no_quote no_backslash ascii (λ k within low. same (suc k) (omega arith) low))

-- a letter that is no quote and no backslash has no such byte
escaped_letter : (quote letter : ℕ) → letter ≢ quote → letter ≢ 92 → quote < 128 → escaped quote (encode_utf8 letter) ≡ encode_utf8 letter
escaped_letter quote letter no_quote no_backslash ascii =
    escaped_plain quote letter (encode_utf8 letter) no_quote no_backslash ascii
    (λ k within low. inside_one letter [] (encode_utf8 letter) k (sym (append-nil (encode_utf8 letter))) within low)

-- a quote and a backslash are one byte
escaped_mark : (quote letter : ℕ) → letter < 128 → ((letter == quote) || (letter == 92)) ≡ true → escaped quote (encode_utf8 letter) ≡ 92 ∷ encode_utf8 letter
escaped_mark quote letter ascii marked =
    rw (encode_ascii letter ascii) (ap (λ t. if t then 92 ∷ (letter ∷ []) else letter ∷ []) marked)

-- one letter, with the backslash that stands before it
pub escaped_one : (quote letter : ℕ) → quote < 128
    → escaped quote (encode_utf8 letter) ≡ (if (letter == quote) || (letter == 92) then 92 ∷ [] else []) ++ encode_utf8 letter
escaped_one quote letter ascii = by ((letter == quote) || (letter == 92)) refl
  where
    by : (t : Bool) → ((letter == quote) || (letter == 92)) ≡ t → escaped quote (encode_utf8 letter) ≡ (if t then 92 ∷ [] else []) ++ encode_utf8 letter
    by true marked = escaped_mark quote letter (grind (arith, nat_tests)) marked
    by false plain = escaped_letter quote letter (grind (arith, nat_tests)) (grind (arith, nat_tests)) ascii

-- a number that one digit more takes beyond the greatest number is no small one
pub number_too_great : (n i : ℕ) (digits : List ℕ) → i < length digits → 4294967295 < n * 10 + (get_or digits i 0 - 48) → nat_le (number_from n (drop i digits)) 4294967295 ≡ false
number_too_great n i digits within beyond = lt-leb _ _ (number_beyond 4294967296 n i digits within beyond)
