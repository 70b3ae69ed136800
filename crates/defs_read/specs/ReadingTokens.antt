-- What the token in front is, as far as the tree depends on it.
use Rattle.std.specs.Prelude.{ℕ, Bool, true, false, ◌==◌, nat_lt, List, Option, Some, None, if◌then◌else◌}
use Rattle.std.specs.Str.{bytes_eq}
use Rattle.defs_text.specs.Lexing.{Saying, mark, arrow, open_set, close_set, sign, variable_named, integer, word_of}
use Rattle.defs_read.specs.Grammar.{Constant, named, number, Single, a_variable, a_constant}
use Rattle.defs_read.specs.Readers.{Read}

abbrev pub ReadOf : Type 0 → Type 0
ReadOf A = Read Saying A

abbrev pub is_mark : ℕ → Saying → Bool
is_mark b (mark c) = c == b
is_mark b other = false

abbrev pub is_sign : ℕ → Saying → Bool
is_sign k (sign j) = j == k
is_sign k other = false

abbrev pub is_arrow : Saying → Bool
is_arrow arrow = true
is_arrow other = false

abbrev pub is_open_set : Saying → Bool
is_open_set open_set = true
is_open_set other = false

abbrev pub is_close_set : Saying → Bool
is_close_set close_set = true
is_close_set other = false

-- a bare word of this text
abbrev pub is_bare : List ℕ → Saying → Bool
is_bare text (word_of other true) = bytes_eq other text
is_bare text other = false

abbrev pub as_constant : Saying → Option Constant
as_constant (word_of text bare) = Some (named text bare)
as_constant (integer z) = Some (number z)
as_constant other = None

abbrev pub is_constant : Saying → Bool
is_constant (word_of text bare) = true
is_constant (integer z) = true
is_constant other = false

abbrev pub as_single : Saying → Option Single
as_single (variable_named name) = Some (a_variable name)
as_single (word_of text bare) = Some (a_constant (named text bare))
as_single (integer z) = Some (a_constant (number z))
as_single other = None

-- one of `<`, `>`, `<=`, `>=`, `<>`, `<=>`, `=`
abbrev pub as_relation : Saying → Option ℕ
as_relation (sign k) = if nat_lt k 7 then Some k else None
as_relation other = None

abbrev pub is_relation : Saying → Bool
is_relation (sign k) = nat_lt k 7
is_relation other = false
