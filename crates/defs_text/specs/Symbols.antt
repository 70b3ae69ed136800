-- The texts of symbols and of instances (Soar manual, chapter 9, the print and matches commands; the forms are this engine's).
use Rattle.std.specs.Prelude.{ℕ, Bool, true, false, ◌&&◌, not, nat_le, List, [], ◌∷◌, ◌++◌, if◌then◌else◌}
use Rattle.std.specs.List.{list_all}
use Rattle.std.specs.Fmt.{decimal, signed_decimal}
use Rattle.soar_sym.specs.Words.{Texts, text_of}
use Rattle.soar_sym.specs.declared.symbol.Sym.{Sym}
use Rattle.soar_sym.specs.declared.symbol.Sym.TheVariants.{Ident, Word, Int}
use Rattle.defs_text.specs.Bytes.{is_run_byte, is_digit, is_capital}
use Rattle.defs_text.specs.Runs.{RunKind, a_word, run_kind, begins_with, is_empty, number_from}
use Rattle.defs_text.specs.Quotes.{escaped}

-- the digits of a number from 1 to 4294967295 without a leading zero
abbrev pub is_identifier_number : List ℕ → Bool
is_identifier_number digits = not (is_empty digits) && (not (begins_with 48 digits) && (list_all is_digit digits && nat_le (number_from 0 digits) 4294967295))

-- one capital letter and such a number, as `S1`
abbrev pub is_identifier_form : List ℕ → Bool
is_identifier_form [] = false
is_identifier_form (letter ∷ digits) = is_capital letter && is_identifier_number digits

abbrev pub is_word_kind : RunKind → Bool
is_word_kind a_word = true
is_word_kind other = false

-- the text is read back as a bare word
abbrev pub reads_back : List ℕ → Bool
reads_back text = not (is_empty text) && (list_all is_run_byte text && is_word_kind (run_kind text))

-- a word stands bare where it is read back so and has not the form of an identifier
abbrev pub stands_bare : List ℕ → Bool
stands_bare text = reads_back text && not (is_identifier_form text)

abbrev pub barred : List ℕ → List ℕ
barred text = 124 ∷ (escaped 124 text ++ (124 ∷ []))

abbrev pub word_text : List ℕ → List ℕ
word_text text = if stands_bare text then text else barred text

abbrev pub symbol_text : Texts → Sym → List ℕ
symbol_text words (Ident letter number) = letter ∷ decimal number
symbol_text words (Int value) = signed_decimal value
symbol_text words (Word word) = word_text (text_of words word)

-- each tag behind a blank
abbrev pub tags_text : List ℕ → List ℕ
tags_text [] = []
tags_text (tag ∷ tags) = 32 ∷ (decimal tag ++ tags_text tags)

-- an instance of the rule of a name: the name, a colon and the tags
abbrev pub instance_text : Texts → Sym → List ℕ → List ℕ
instance_text words name tags = symbol_text words name ++ (58 ∷ tags_text tags)
