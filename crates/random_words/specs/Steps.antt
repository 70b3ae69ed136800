-- One piece cut off the front of what is left of a text of random words. No public clause cites this module.
use Rattle.std.specs.Prelude.{◌≡◌, ℕ, ◌^◌, ◌<◌, ◌≤◌, List, ◌++◌, map, length, Option, Result, Ok, Err}
use Rattle.soar_sym.specs.Words.{Texts}
use Rattle.defs_text.specs.Lexing.{Spelled, Piece}
use Rattle.defs_text.specs.Numbered.{words_after}
use Rattle.defs_text.specs.declared.token.LexFault.{LexFault}
use Rattle.soar_lex.specs.Steps.{spelled, size_of, Stopped}
use Rattle.defs_run.specs.Arguments.{argument_of}
use Rattle.random_words.specs.Answers.{number_in}
use Rattle.random_words.specs.Pieces.{random_at}

-- the numbers of tokens at the front of what is left
abbrev pub numbers_at : List ℕ → List Spelled → List (Option ℕ)
numbers_at rest tokens = map (λ t. number_in (argument_of rest t.says)) tokens

-- a piece was cut off, with what the table gained and the number that joined the others
pub record Advanced (old new : Texts) (before after : List (Option ℕ)) (place : ℕ) (piece : Piece) (rest : List ℕ) (count : ℕ) : Type 0 where
  pub count_is : size_of piece ≡ count
  pub some : 0 < count
  pub within : count ≤ length rest
  pub words : new ≡ words_after old (spelled place piece)
  pub few : length old < length new → length new < 2 ^ 32
  pub numbers : after ≡ before ++ numbers_at rest (spelled place piece)

abbrev pub IsStep : Texts → Texts → List (Option ℕ) → List (Option ℕ) → ℕ → List ℕ → Result ℕ LexFault → Type 0
IsStep old new before after place rest (Ok count) = Advanced old new before after place (random_at place rest) rest count
IsStep old new before after place rest (Err reason) = Stopped old new place (random_at place rest) reason
