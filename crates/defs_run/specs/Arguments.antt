-- What stands behind a command's word: its tokens as arguments.
use Rattle.std.specs.Prelude.{ℕ, ◌-◌, Bool, true, false, ◌&&◌, ◌||◌, ◌==◌, ℤ, pos, negsuc, List, [], ◌∷◌, drop, Option, Some, None, if◌then◌else◌}
use Rattle.soar_sym.specs.Words.{Texts}
use Rattle.soar_sym.specs.declared.symbol.Sym.{Sym}
use Rattle.soar_sym.specs.declared.symbol.Sym.TheVariants.{Ident, Word, Int}
use Rattle.defs_text.specs.Bytes.{is_small}
use Rattle.defs_text.specs.Lexing.{Saying, mark, arrow, open_set, close_set, sign, variable_named, integer, word_of, documentation, Spelled}
use Rattle.defs_text.specs.Numbered.{word_in}
use Rattle.defs_text.specs.Runs.{begins_digit, number_from}
use Rattle.defs_text.specs.Symbols.{is_identifier_form, is_identifier_number}
use Rattle.defs_run.specs.Orders.{Operand, is_symbol, is_label}

-- a token of a command; a number is an integer without a sign
pub data Argument : Type 0 where
  bare barred label : List ℕ → Argument
  number : ℕ → Argument
  signed : ℤ → Argument
  caret : Argument
  no_argument : Argument

abbrev pub as_integer : List ℕ → ℤ → Argument
as_integer bytes (pos n) = if begins_digit bytes then number n else signed (pos n)
as_integer bytes (negsuc n) = signed (negsuc n)

abbrev pub as_mark : ℕ → Argument
as_mark b = if b == 94 then caret else no_argument

-- `bytes` are those of the text from the token on
abbrev pub argument_of : List ℕ → Saying → Argument
argument_of bytes (word_of text true) = bare text
argument_of bytes (word_of text false) = barred text
argument_of bytes (variable_named name) = label name
argument_of bytes (integer z) = as_integer bytes z
argument_of bytes (mark b) = as_mark b
argument_of bytes arrow = no_argument
argument_of bytes open_set = no_argument
argument_of bytes close_set = no_argument
argument_of bytes (sign k) = no_argument
argument_of bytes (documentation text) = no_argument

abbrev pub argument_in : List ℕ → Spelled → Argument
argument_in text t = argument_of (drop t.start text) t.says

-- ---- symbols

-- a letter as a capital, and the number behind it
abbrev pub identifier_of : List ℕ → Sym
identifier_of [] = Word 0
identifier_of (letter ∷ digits) = Ident (if is_small letter then letter - 32 else letter) (number_from 0 digits)

abbrev pub bare_symbol : Texts → List ℕ → Sym
bare_symbol words text = if is_identifier_form text then identifier_of text else word_in words text

-- what may stand as a value
abbrev pub operand_of : Texts → Argument → Option Operand
operand_of words (bare text) = Some (is_symbol (bare_symbol words text))
operand_of words (barred text) = Some (is_symbol (word_in words text))
operand_of words (label name) = Some (is_label name)
operand_of words (number n) = Some (is_symbol (Int (pos n)))
operand_of words (signed z) = Some (is_symbol (Int z))
operand_of words caret = None
operand_of words no_argument = None

-- an attribute is no label
abbrev pub attribute_of : Texts → Argument → Option Operand
attribute_of words (label name) = None
attribute_of words other = operand_of words other

-- one small letter and a number, as `s1`
abbrev pub is_small_form : List ℕ → Bool
is_small_form [] = false
is_small_form (letter ∷ digits) = is_small letter && is_identifier_number digits

-- in the place of an identifier its letter may be small
abbrev pub id_of : Argument → Option Operand
id_of (bare text) = if is_identifier_form text || is_small_form text then Some (is_symbol (identifier_of text)) else None
id_of (label name) = Some (is_label name)
id_of other = None

-- a name is a word, and no identifier
abbrev pub name_of : Texts → Argument → Option Sym
name_of words (bare text) = if is_identifier_form text then None else Some (word_in words text)
name_of words (barred text) = Some (word_in words text)
name_of words other = None
