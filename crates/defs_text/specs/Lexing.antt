-- Bytes into tokens, which still hold their texts.
use Rattle.std.specs.Prelude.{ℕ, zero, suc, ◌+◌, ◌-◌, Bool, true, false, ◌&&◌, ◌==◌, not, ℤ, List, [], ◌∷◌, length, take, drop, Option, Some, None, if◌then◌else◌}
use Rattle.std.specs.List.{prefix_len}
use Rattle.defs_text.specs.Bytes.{is_blank, is_run_byte, is_mark}
use Rattle.defs_text.specs.Runs.{RunKind, an_arrow, opens_set, closes_set, a_sign, a_variable, a_number, a_float, has_angle, a_word, run_kind, fits_integer, begins_digit}
use Rattle.defs_text.specs.Quotes.{closing, meant, fault_inside}

-- what a token says, with the texts of words and variables
pub data Saying : Type 0 where
  mark : ℕ → Saying
  arrow open_set close_set : Saying
  sign : ℕ → Saying
  variable_named : List ℕ → Saying
  integer : ℤ → Saying
  word_of : List ℕ → Bool → Saying  -- and whether it stands bare
  documentation : List ℕ → Saying

-- a token, the place of its first byte and the place behind its last
pub record Spelled : Type 0 where
  pub says : Saying
  pub start : ℕ
  pub end : ℕ

-- a fault, with its place
pub data Fault : Type 0 where
  bad_byte open_string wide_number float_number : ℕ → Fault

-- what stands at the front: a token, or a blank or a comment, with the number of its bytes, or a fault
pub data Piece : Type 0 where
  token : Saying → ℕ → Piece
  nothing : ℕ → Piece
  fault : Fault → Piece

-- ---- runs

-- a dot and a digit, behind an integer
abbrev pub begins_fraction : List ℕ → Bool
begins_fraction [] = false
begins_fraction (b ∷ bytes) = (b == 46) && begins_digit bytes

abbrev pub number_piece : ℕ → ℕ → ℤ → Bool → Piece
number_piece place count z true = fault (float_number place)
number_piece place count z false = if fits_integer z then token (integer z) count else fault (wide_number place)

-- a run by its kind, the place of its first byte, and what follows it
abbrev pub run_piece : ℕ → List ℕ → List ℕ → RunKind → Piece
run_piece place run after an_arrow = token arrow (length run)
run_piece place run after opens_set = token open_set (length run)
run_piece place run after closes_set = token close_set (length run)
run_piece place run after (a_sign n) = token (sign n) (length run)
run_piece place run after (a_variable name) = token (variable_named name) (length run)
run_piece place run after (a_number z) = number_piece place (length run) z (begins_fraction after)
run_piece place run after a_float = fault (float_number place)
run_piece place run after (has_angle n) = fault (bad_byte (place + n))
run_piece place run after a_word = token (word_of run true) (length run)

-- the longest run in front
abbrev pub run_of : List ℕ → List ℕ
run_of bytes = take (prefix_len is_run_byte bytes) bytes

abbrev pub after_run : List ℕ → List ℕ
after_run bytes = drop (prefix_len is_run_byte bytes) bytes

-- ---- bars and quotes

abbrev pub quoted_word : List ℕ → Saying
quoted_word text = word_of text false

-- the bytes behind an opening one at a place, of which so many stand before the closing one
abbrev pub inside_piece : ℕ → (List ℕ → Saying) → ℕ → List ℕ → Option ℕ → Piece
inside_piece place says count inside (Some at) = fault (bad_byte (place + 1 + at))
inside_piece place says count inside None = token (says (meant inside)) (count + 2)

abbrev pub quoted_piece : ℕ → ℕ → (List ℕ → Saying) → List ℕ → Option ℕ → Piece
quoted_piece quote place says bytes None = fault (open_string place)
quoted_piece quote place says bytes (Some count) = inside_piece place says count (take count bytes) (fault_inside quote (take count bytes))

-- ---- the whole text

-- what a byte begins
pub data Front : Type 0 where
  a_blank a_run a_mark a_bar a_quote a_comment no_front : Front

abbrev pub front_at : ℕ → Front
front_at b =
    if is_blank b then a_blank else if is_run_byte b then a_run else if is_mark b then a_mark
    else if b == 124 then a_bar else if b == 34 then a_quote else if b == 35 then a_comment else no_front

abbrev pub piece_of : Front → ℕ → ℕ → List ℕ → Piece
piece_of a_blank place b bytes = nothing 1
piece_of a_run place b bytes = run_piece place (run_of (b ∷ bytes)) (after_run (b ∷ bytes)) (run_kind (run_of (b ∷ bytes)))
piece_of a_mark place b bytes = token (mark b) 1
piece_of a_bar place b bytes = quoted_piece 124 place quoted_word bytes (closing 124 bytes)
piece_of a_quote place b bytes = quoted_piece 34 place documentation bytes (closing 34 bytes)
piece_of a_comment place b bytes = nothing (suc (prefix_len (λ c. not (c == 10)) bytes))  -- up to the end of its line
piece_of no_front place b bytes = fault (bad_byte place)

-- the tokens up to the first fault, and the fault, if there is one
pub record Lexed : Type 0 where
  pub tokens : List Spelled
  pub fault : Option Fault

abbrev pub with_token : Spelled → Lexed → Lexed
with_token t l = record { tokens = t ∷ l.tokens; fault = l.fault }

-- the tokens from a place on, where so many bytes still belong to the piece before
abbrev pub lexed_from : ℕ → ℕ → List ℕ → Lexed
lexed_from skip place [] = record { tokens = []; fault = None }
lexed_from (suc skip) place (b ∷ bytes) = lexed_from skip (suc place) bytes
lexed_from zero place (b ∷ bytes) =
    elim (piece_of (front_at b) place b bytes) [
      | token says count ↦ with_token (record { says = says; start = place; end = place + count }) (lexed_from (count - 1) (suc place) bytes)
      | nothing count ↦ lexed_from (count - 1) (suc place) bytes
      | fault e ↦ record { tokens = []; fault = Some e }
    ]

unfoldable pub lexed : List ℕ → Lexed
lexed bytes = lexed_from 0 0 bytes
