-- One piece cut off the front of what is left of a text. No public clause cites this module.
use Rattle.std.specs.Prelude.{◌≡◌, ℕ, ◌+◌, ◌-◌, ◌^◌, ◌<◌, ◌≤◌, List, [], ◌∷◌, ◌++◌, map, length, Result, Ok, Err}
use Rattle.soar_sym.specs.Words.{Texts}
use Rattle.defs_text.specs.Lexing.{Spelled, Piece, token, nothing, fault}
use Rattle.defs_text.specs.Numbered.{numbered, words_after}
use Rattle.defs_text.specs.declared.token.Token.{Token}
use Rattle.defs_text.specs.declared.token.LexFault.{LexFault}
use Rattle.defs_text.specs.declared.token.LexFault.TheVariants as refusal
use Rattle.soar_lex.specs.Answers.{Grown}
use Rattle.soar_lex.specs.Pieces.{IsFault, piece_at}

-- the token that the piece at a place is, if it is one
abbrev pub spelled : ℕ → Piece → List Spelled
spelled place (token says count) = record { says = says; start = place; end = place + count } ∷ []
spelled place (nothing count) = []
spelled place (fault reason) = []

-- the number of its bytes
abbrev pub size_of : Piece → ℕ
size_of (token says count) = count
size_of (nothing count) = count
size_of (fault reason) = 0

-- a piece was cut off, with what the table gained and the token that joined the others
pub record Advanced (old new : Texts) (before after : List Token) (place : ℕ) (piece : Piece) (rest : List ℕ) (count : ℕ) : Type 0 where
  pub count_is : size_of piece ≡ count
  pub some : 0 < count
  pub within : count ≤ length rest
  pub words : new ≡ words_after old (spelled place piece)
  pub few : length old < length new → length new < 2 ^ 32
  pub tokens : after ≡ before ++ map (numbered new) (spelled place piece)

-- why none was
abbrev pub Stopped : Texts → Texts → ℕ → Piece → LexFault → Type 0
Stopped old new place piece refusal.WordsSpent = (2 ^ 32 - 1 < length (words_after old (spelled place piece))) × (new ≡ old)
Stopped old new place piece refusal.NoMemory = Grown old new
Stopped old new place piece other = IsFault piece other × (new ≡ old)

abbrev pub IsStep : Texts → Texts → List Token → List Token → ℕ → List ℕ → Result ℕ LexFault → Type 0
IsStep old new before after place rest (Ok count) = Advanced old new before after place (piece_at place rest) rest count
IsStep old new before after place rest (Err reason) = Stopped old new place (piece_at place rest) reason
