-- What the answers of this crate's calls say.
use Rattle.std.specs.Prelude.{◌≡◌, ℕ, ◌-◌, ◌^◌, ◌<◌, true, false, ℤ, List, ◌++◌, map, length, Some, None, Result, Ok, Err}
use Rattle.soar_sym.specs.Words.{Texts}
use Rattle.defs_text.specs.Runs.{an_arrow, opens_set, closes_set, a_sign, a_variable, a_number, a_float, has_angle, a_word, run_kind, inside_of, fits_integer}
use Rattle.defs_text.specs.Lexing.{Lexed, bad_byte, open_string, wide_number, float_number}
use Rattle.defs_text.specs.Numbered.{numbered, words_after}
use Rattle.defs_text.specs.declared.token.Token.{Token}
use Rattle.defs_text.specs.declared.token.LexFault.{LexFault}
use Rattle.defs_text.specs.declared.token.LexFault.TheVariants as fault
use Rattle.soar_lex.specs.declared.run.Run.{Run}
use Rattle.soar_lex.specs.declared.run.Run.TheVariants as run

-- what a run of these bytes is
abbrev pub IsKind : List ℕ → Run → Type 0
IsKind bytes run.Arrow = run_kind bytes ≡ an_arrow
IsKind bytes run.OpenSet = run_kind bytes ≡ opens_set
IsKind bytes run.CloseSet = run_kind bytes ≡ closes_set
IsKind bytes (run.Sign place) = run_kind bytes ≡ a_sign place
IsKind bytes run.Variable = run_kind bytes ≡ a_variable (inside_of bytes)
IsKind bytes (run.Number value) = (run_kind bytes ≡ a_number value) × (fits_integer value ≡ true)
IsKind bytes run.WideNumber = (value : ℤ) × (run_kind bytes ≡ a_number value) × (fits_integer value ≡ false)
IsKind bytes run.Float = run_kind bytes ≡ a_float
IsKind bytes (run.Angle before) = run_kind bytes ≡ has_angle before
IsKind bytes run.Word = run_kind bytes ≡ a_word

-- the table has gained the words of all tokens up to the first fault
pub record Gained (old new : Texts) (text : Lexed) : Type 0 where
  pub words : new ≡ words_after old text.tokens
  pub few : length old < length new → length new < 2 ^ 32

-- the table has gained some words
abbrev pub Grown : Texts → Texts → Type 0
Grown old new = (more : Texts) × (new ≡ old ++ more)

pub record CutWhole (old new : Texts) (text : Lexed) (tokens : List Token) : Type 0 where
  pub fault : text.fault ≡ None
  pub tokens_are : tokens ≡ map (numbered new) text.tokens
  pub gained : Gained old new text

-- WordsSpent comes where the words up to the first fault are more than a table holds
abbrev pub IsCut : Texts → Texts → Lexed → Result (List Token) LexFault → Type 0
IsCut old new text (Ok tokens) = CutWhole old new text tokens
IsCut old new text (Err (fault.BadByte place)) = (text.fault ≡ Some (bad_byte place)) × Gained old new text
IsCut old new text (Err (fault.OpenString place)) = (text.fault ≡ Some (open_string place)) × Gained old new text
IsCut old new text (Err (fault.WideNumber place)) = (text.fault ≡ Some (wide_number place)) × Gained old new text
IsCut old new text (Err (fault.FloatNumber place)) = (text.fault ≡ Some (float_number place)) × Gained old new text
IsCut old new text (Err fault.WordsSpent) = (2 ^ 32 - 1 < length (words_after old text.tokens)) × Grown old new
IsCut old new text (Err fault.NoMemory) = Grown old new
