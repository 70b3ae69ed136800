-- Tokens behind a command's word as arguments, whose texts are those of the table.
use Rattle.std.specs.Prelude.{ℕ, ◌≤◌, ◌^◌, ◌-◌, Bool, true, false, List, [], ◌∷◌, drop, Option, Some, None}
use Rattle.soar_sym.specs.Words.{Texts, text_of}
use Rattle.soar_sym.specs.declared.symbol.Sym.{Sym}
use Rattle.soar_sym.specs.declared.symbol.Sym.TheVariants.{Word}
use Rattle.defs_text.specs.declared.token.TokenKind.{TokenKind}
use Rattle.defs_text.specs.declared.token.TokenKind.TheVariants as kind
use Rattle.defs_text.specs.declared.token.Token.{Token}
use Rattle.defs_read.specs.Sayings.{IsWordKnown}
use Rattle.defs_run.specs.Arguments.{Argument, bare, barred, label, number, signed, caret, no_argument, as_integer, as_mark}
use Rattle.command_orders.specs.declared.argument.Argument.{Argument as ArgumentRead}
use Rattle.command_orders.specs.declared.argument.Argument.TheVariants as read

abbrev pub word_argument : Texts → Sym → Bool → Argument
word_argument words (Word word) true = bare (text_of words word)
word_argument words (Word word) false = barred (text_of words word)
word_argument words other stands_bare = no_argument

abbrev pub label_argument : Texts → Sym → Argument
label_argument words (Word word) = label (text_of words word)
label_argument words other = no_argument

-- `bytes` are those of the text from the token on
abbrev pub kind_argument : Texts → List ℕ → TokenKind → Argument
kind_argument words bytes (kind.Word word stands_bare) = word_argument words word stands_bare
kind_argument words bytes (kind.Var name) = label_argument words name
kind_argument words bytes (kind.Int value) = as_integer bytes value
kind_argument words bytes (kind.Mark b) = as_mark b
kind_argument words bytes other = no_argument

abbrev pub argument_at : Texts → List ℕ → Token → Argument
argument_at words text t = kind_argument words (drop t.start text) t.kind

-- ---- the arguments that the code read

abbrev pub argument_seen : Texts → ArgumentRead → Argument
argument_seen words (read.Bare word) = bare (text_of words word)
argument_seen words (read.Barred word) = barred (text_of words word)
argument_seen words (read.Label name) = label (text_of words name)
argument_seen words (read.Number n) = number n
argument_seen words (read.Signed value) = signed value
argument_seen words read.Caret = caret
argument_seen words read.Other = no_argument

-- its word is one of the table, and its number one that an integer has
abbrev pub IsArgumentKnown : Texts → ArgumentRead → Type 0
IsArgumentKnown words (read.Bare word) = IsWordKnown words (Word word)
IsArgumentKnown words (read.Barred word) = IsWordKnown words (Word word)
IsArgumentKnown words (read.Label name) = IsWordKnown words (Word name)
IsArgumentKnown words (read.Number n) = n ≤ 2 ^ 63 - 1
IsArgumentKnown words (read.Signed value) = Unit {0}
IsArgumentKnown words read.Caret = Unit {0}
IsArgumentKnown words read.Other = Unit {0}

abbrev pub AreArgumentsKnown : Texts → List ArgumentRead → Type 0
AreArgumentsKnown words [] = Unit {0}
AreArgumentsKnown words (a ∷ arguments) = IsArgumentKnown words a × AreArgumentsKnown words arguments

-- the identifier, the attribute and the value of `ID ^ATTR VALUE`
abbrev pub triple_in : List ArgumentRead → Option (ArgumentRead × ArgumentRead × ArgumentRead)
triple_in (id ∷ read.Caret ∷ attr ∷ value ∷ []) = Some (id, attr, value)
triple_in other = None
