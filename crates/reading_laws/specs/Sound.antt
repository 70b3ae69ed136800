-- What the tokens of a text keep.
use Rattle.std.specs.Prelude.{◌≡◌, true, IsUtf8}
use Rattle.defs_text.specs.Lexing.{Saying, variable_named, integer, word_of, documentation}
use Rattle.defs_text.specs.Runs.{fits_integer}
use Rattle.defs_read.specs.Spelling.{Tokens}
use Rattle.reading_laws.specs.Lawful.{AllOf}
use Rattle.reading_laws.specs.Printable.{IsName}

-- a variable has a name that it can be written by, texts are UTF-8, and integers have 64 bits
abbrev pub IsSound : Saying → Type 0
IsSound (variable_named name) = IsName name
IsSound (word_of text bare) = IsUtf8 text
IsSound (documentation text) = IsUtf8 text
IsSound (integer z) = fits_integer z ≡ true
IsSound other = Unit {0}

abbrev pub AreSound : Tokens → Type 0
AreSound tokens = AllOf IsSound tokens
