-- Tokens with the words of a table in place of texts, and how a command's tokens make the table grow.
use Rattle.std.specs.Prelude.{ℕ, List, [], ◌∷◌, unwrap_or}
use Rattle.soar_sym.specs.Words.{Texts, with_texts, place_of}
use Rattle.soar_sym.specs.declared.symbol.Sym.{Sym}
use Rattle.soar_sym.specs.declared.symbol.Sym.TheVariants.{Word}
use Rattle.defs_text.specs.Lexing.{Saying, mark, arrow, open_set, close_set, sign, variable_named, integer, word_of, documentation, Spelled}
use Rattle.defs_text.specs.declared.token.TokenKind.{TokenKind}
use Rattle.defs_text.specs.declared.token.TokenKind.TheVariants as kind
use Rattle.defs_text.specs.declared.token.Token.{Token}

-- the word of a text that the table has
abbrev pub word_in : Texts → List ℕ → Sym
word_in words text = Word (unwrap_or (place_of words text) 0)

abbrev pub kind_in : Texts → Saying → TokenKind
kind_in words (mark b) = kind.Mark b
kind_in words arrow = kind.Arrow
kind_in words open_set = kind.OpenSet
kind_in words close_set = kind.CloseSet
kind_in words (sign n) = kind.Sign n
kind_in words (variable_named name) = kind.Var (word_in words name)
kind_in words (integer z) = kind.Int z
kind_in words (word_of text bare) = kind.Word (word_in words text) bare
kind_in words (documentation text) = kind.Doc text

abbrev pub numbered : Texts → Spelled → Token
numbered words t = record { kind = kind_in words t.says; start = t.start; end = t.end }

-- the texts that become words: those of words and of variables, in order
abbrev pub texts_before : Saying → Texts → Texts
texts_before (variable_named name) texts = name ∷ texts
texts_before (word_of text bare) texts = text ∷ texts
texts_before other texts = texts

abbrev pub token_texts : List Spelled → Texts
token_texts [] = []
token_texts (t ∷ tokens) = texts_before t.says (token_texts tokens)

-- the table once these tokens were read
abbrev pub words_after : Texts → List Spelled → Texts
words_after words tokens = with_texts words (token_texts tokens)
