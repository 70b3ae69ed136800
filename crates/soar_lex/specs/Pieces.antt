-- What stands at the front of a text, as the code has it, against the definition.
use Rattle.std.specs.Prelude.{◌≡◌, ℕ, ◌+◌, true, false, List, [], ◌∷◌, length, Result, Ok, Err}
use Rattle.std.specs.Borrow.{Bor}
use Rattle.defs_text.specs.Quotes.{meant}
use Rattle.defs_text.specs.Lexing.{Saying, mark, arrow, open_set, close_set, sign, variable_named, integer, word_of, documentation, Piece, token, nothing, fault, bad_byte, open_string, wide_number, float_number, front_at, piece_of}
use Rattle.defs_text.specs.declared.token.LexFault.{LexFault}
use Rattle.defs_text.specs.declared.token.LexFault.TheVariants as refusal
use Rattle.soar_lex.specs.declared.front.Says.{Says}
use Rattle.soar_lex.specs.declared.front.Says.TheVariants as says
use Rattle.soar_lex.specs.declared.front.Piece.{Piece as Cut}
use Rattle.soar_lex.specs.declared.front.Piece.TheVariants as cut

-- what a token says
abbrev pub saying : Says → Saying
saying (says.Mark byte) = mark byte
saying says.Arrow = arrow
saying says.OpenSet = open_set
saying says.CloseSet = close_set
saying (says.Sign place) = sign place
saying (says.Variable name) = variable_named name.now
saying (says.Integer value) = integer value
saying (says.Bare text) = word_of text.now true
saying (says.Barred inside) = word_of (meant inside.now) false
saying (says.Quoted inside) = documentation (meant inside.now)

-- the fault is this one
abbrev pub IsFault : Piece → LexFault → Type 0
IsFault piece (refusal.BadByte place) = piece ≡ fault (bad_byte place)
IsFault piece (refusal.OpenString place) = piece ≡ fault (open_string place)
IsFault piece (refusal.WideNumber place) = piece ≡ fault (wide_number place)
IsFault piece (refusal.FloatNumber place) = piece ≡ fault (float_number place)
IsFault piece refusal.WordsSpent = ⊥
IsFault piece refusal.NoMemory = ⊥

-- the piece is this one
abbrev pub IsFront : Piece → Result Cut LexFault → Type 0
IsFront piece (Ok (cut.Nothing count)) = piece ≡ nothing count
IsFront piece (Ok (cut.Token says count)) = piece ≡ token (saying says) count
IsFront piece (Err reason) = IsFault piece reason

-- the number of its bytes
abbrev pub bytes_of : Cut → ℕ
bytes_of (cut.Nothing count) = count
bytes_of (cut.Token says count) = count

-- the piece at the front of a text that begins at a place
abbrev pub piece_at : ℕ → List ℕ → Piece
piece_at place [] = nothing 0
piece_at place (b ∷ bytes) = piece_of (front_at b) place b bytes

-- a text between bars or quotes, of which a token says so much
abbrev pub IsInside : (List ℕ → Saying) → Piece → Result (Bor (List ℕ)) LexFault → Type 0
IsInside says piece (Ok inside) = piece ≡ token (says (meant inside.now)) (length inside.now + 2)
IsInside says piece (Err reason) = IsFault piece reason
