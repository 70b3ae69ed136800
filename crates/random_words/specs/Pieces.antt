-- What stands at the front of a text of random words, as the code has it, against the definition. No public clause cites this module.
use Rattle.std.specs.Prelude.{◌≡◌, ℕ, true, pos, List, [], ◌∷◌, Result, Ok, Err}
use Rattle.defs_text.specs.Lexing.{integer, Piece, token, nothing, front_at}
use Rattle.defs_text.specs.Runs.{begins_digit}
use Rattle.defs_text.specs.declared.token.LexFault.{LexFault}
use Rattle.soar_lex.specs.Pieces.{IsFault, saying}
use Rattle.defs_run.specs.RandomReading.{random_piece}
use Rattle.random_words.specs.declared.front.Front.{Front}
use Rattle.random_words.specs.declared.front.Front.TheVariants as front

-- the piece at the front of a text that begins at a place
abbrev pub random_at : ℕ → List ℕ → Piece
random_at place [] = nothing 0
random_at place (b ∷ bytes) = random_piece (front_at b) place b bytes

-- the piece is this one, and a wide number has no sign
abbrev pub IsFront : List ℕ → Piece → Result Front LexFault → Type 0
IsFront text piece (Ok (front.Nothing count)) = piece ≡ nothing count
IsFront text piece (Ok (front.Token says count)) = piece ≡ token (saying says) count
IsFront text piece (Ok (front.Wide value count)) = (piece ≡ token (integer (pos value)) count) × (begins_digit text ≡ true)
IsFront text piece (Err reason) = IsFault piece reason

-- the number of its bytes
abbrev pub bytes_of : Front → ℕ
bytes_of (front.Nothing count) = count
bytes_of (front.Token says count) = count
bytes_of (front.Wide value count) = count
