-- What numbered tokens say, with the texts of a table in place of its words.
use Rattle.std.specs.Prelude.{◌≡◌, ℕ, Bool, true, false, ◌&&◌, ◌==◌, nat_lt, List, [], ◌∷◌, map, length, Some, None}
use Rattle.soar_sym.specs.Words.{Texts, place_of, text_of}
use Rattle.soar_sym.specs.declared.symbol.Sym.{Sym}
use Rattle.soar_sym.specs.declared.symbol.Sym.TheVariants.{Ident, Word, Int}
use Rattle.defs_text.specs.Lexing.{Saying, mark, arrow, open_set, close_set, sign, variable_named, integer, word_of, documentation}
use Rattle.defs_text.specs.declared.token.TokenKind.{TokenKind}
use Rattle.defs_text.specs.declared.token.TokenKind.TheVariants as kind
use Rattle.defs_text.specs.declared.token.Token.{Token}

-- the text of a symbol that is a word
abbrev pub word_text : Texts → Sym → List ℕ
word_text words (Word word) = text_of words word
word_text words (Ident letter number) = []
word_text words (Int value) = []

abbrev pub saying_of : Texts → TokenKind → Saying
saying_of words (kind.Mark b) = mark b
saying_of words kind.Arrow = arrow
saying_of words kind.OpenSet = open_set
saying_of words kind.CloseSet = close_set
saying_of words (kind.Sign n) = sign n
saying_of words (kind.Var name) = variable_named (word_text words name)
saying_of words (kind.Int value) = integer value
saying_of words (kind.Word word bare) = word_of (word_text words word) bare
saying_of words (kind.Doc text) = documentation text

abbrev pub sayings : Texts → List Token → List Saying
sayings words tokens = map (λ t. saying_of words t.kind) tokens

-- ---- tokens whose words the table has

-- a word of the table, and neither an identifier nor an integer
abbrev pub is_word_known : Texts → Sym → Bool
is_word_known words (Word word) = nat_lt word (length words)
is_word_known words (Ident letter number) = false
is_word_known words (Int value) = false

abbrev pub IsWordKnown : Texts → Sym → Type 0
IsWordKnown words s = is_word_known words s ≡ true

-- a word or the name of a variable
abbrev pub IsKindKnown : Texts → TokenKind → Type 0
IsKindKnown words (kind.Var name) = IsWordKnown words name
IsKindKnown words (kind.Word word bare) = IsWordKnown words word
IsKindKnown words other = Unit {0}

abbrev pub AreTokensKnown : Texts → List Token → Type 0
AreTokensKnown words [] = Unit {0}
AreTokensKnown words (t ∷ tokens) = IsKindKnown words t.kind × AreTokensKnown words tokens

-- ---- words that are found by their texts, as all words of an agent's table are

-- the word is the place of its own text
abbrev pub is_place : Texts → ℕ → Bool
is_place words word = elim (place_of words (text_of words word)) [ Some n ↦ n == word | None ↦ false ]

abbrev pub is_word_placed : Texts → Sym → Bool
is_word_placed words (Word word) = nat_lt word (length words) && is_place words word
is_word_placed words (Ident letter number) = false
is_word_placed words (Int value) = false

abbrev pub IsWordPlaced : Texts → Sym → Type 0
IsWordPlaced words s = is_word_placed words s ≡ true
