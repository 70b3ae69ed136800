-- Texts that a table has, and their words.
use Rattle.std.proofs.Common.{◌≡◌, ℕ, suc, ◌+◌, ◌<◌, nat_lt, Bool, true, false, ◌||◌, List, [], ◌∷◌, length, Some, refl, sym, ap, ◌∙◌, arith}
use Rattle.std.proofs.lemmas.Bool.{ltb-true}
use Rattle.std.proofs.lemmas.Bool.Decides.{nat_tests}
use Rattle.std.proofs.lemmas.Option.{slice_get-get_or, unwrap_or-slice_get}
use Rattle.std.specs.Prelude.{unwrap_or, slice_get}
use Rattle.std.specs.List.{position_from}
use Rattle.std.specs.Str.{bytes_eq}
use Rattle.std.proofs.lemmas.Slice.Eq.{bytes_eq-Decides}
use Rattle.soar_sym.specs.Words.{Texts, has_text, place_of, text_of, IsTable}
use Rattle.soar_sym.specs.declared.symbol.Sym.TheVariants.{Word}
use Rattle.defs_text.specs.Numbered.{word_in}
use Rattle.defs_read.specs.Sayings.{is_word_known, IsWordKnown}

-- the place of a text, and the text at that place
found_at : (text : List ℕ) (from : ℕ) (words : Texts) → has_text words text ≡ true
    → (n : ℕ) × (position_from (bytes_eq text) from words ≡ Some (from + n)) × (n < length words) × (unwrap_or (slice_get words n) [] ≡ text)
found_at text from [] has = absurd (cc)
found_at text from (word ∷ words) has = by (bytes_eq text word) refl has (found_at text (from + 1) words)
  where
    by : (b : Bool) → bytes_eq text word ≡ b → (bytes_eq text word || has_text words text) ≡ true
        → (has_text words text ≡ true → (n : ℕ) × (position_from (bytes_eq text) (from + 1) words ≡ Some (from + 1 + n)) × (n < length words) × (unwrap_or (slice_get words n) [] ≡ text))
        → (n : ℕ) × (position_from (bytes_eq text) from (word ∷ words) ≡ Some (from + n)) × (n < length (word ∷ words)) × (unwrap_or (slice_get (word ∷ words) n) [] ≡ text)
    by true e has later = let at : from ≡ from + 0 = omega arith in (0, rw e (ap Some at), omega arith, sym ((bytes_eq-Decides text word).0 e))
    by false e has later =
        let more : (n : ℕ) × (position_from (bytes_eq text) (from + 1) words ≡ Some (from + 1 + n)) × (n < length words) × (unwrap_or (slice_get words n) [] ≡ text) = later (rw e at has) in
        let at : from + 1 + more.0 ≡ from + suc more.0 = omega arith in
        (suc more.0, rw e (more.1 ∙ ap Some at), omega (arith, more.2), more.3)

found : (words : Texts) (text : List ℕ) → has_text words text ≡ true → (n : ℕ) × (place_of words text ≡ Some n) × (n < length words) × (text_of words n ≡ text)
found words text has =
    let at : (n : ℕ) × (place_of words text ≡ Some (0 + n)) × (n < length words) × (text_of words n ≡ text) = found_at text 0 words has in
    let same : 0 + at.0 ≡ at.0 = omega arith in
    (at.0, at.1 ∙ ap Some same, at.2, at.3)

-- the text of the word of a text that the table has
pub text_in : (words : Texts) (text : List ℕ) → has_text words text ≡ true → text_of words (unwrap_or (place_of words text) 0) ≡ text
text_in words text has =
    let at : (n : ℕ) × (place_of words text ≡ Some n) × (n < length words) × (text_of words n ≡ text) = found words text has in
    ap (λ o. text_of words (unwrap_or o 0)) at.1 ∙ at.3

pub word_known : (words : Texts) (text : List ℕ) → has_text words text ≡ true → IsWordKnown words (word_in words text)
word_known words text has =
    let at : (n : ℕ) × (place_of words text ≡ Some n) × (n < length words) × (text_of words n ≡ text) = found words text has in
    let within : nat_lt at.0 (length words) ≡ true = grind (arith, nat_tests, at.2) in
    ap (λ o. is_word_known words (Word (unwrap_or o 0))) at.1 ∙ within

-- each word of a table is the word of its own text
pub word_of_text : (words : Texts) (word : ℕ) → IsTable words → IsWordKnown words (Word word) → word_in words (text_of words word) ≡ Word word
word_of_text words word table known =
    let within : word < length words = ltb-true word (length words) known in
    ap (λ o. Word (unwrap_or o 0)) (table.once word (text_of words word) (slice_get-get_or words word [] within ∙ ap Some (sym (unwrap_or-slice_get words word []))))
