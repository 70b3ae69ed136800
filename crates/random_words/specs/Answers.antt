-- What the answers of this crate's call say.
use Rattle.std.specs.Prelude.{◌≡◌, ℕ, List, map, Option, Some, None, Result, Ok, Err}
use Rattle.soar_sym.specs.Words.{Texts}
use Rattle.defs_text.specs.Lexing.{Spelled}
use Rattle.defs_text.specs.declared.token.LexFault.{LexFault}
use Rattle.soar_lex.specs.Answers.{Gained, IsCut}
use Rattle.defs_run.specs.Arguments.{Argument, number, argument_in}
use Rattle.defs_run.specs.RandomReading.{random_lexed}

-- the number that an argument is, if it is one
abbrev pub number_in : Argument → Option ℕ
number_in (number n) = Some n
number_in other = None

-- those of the tokens of a text
abbrev pub numbers_in : List ℕ → List Spelled → List (Option ℕ)
numbers_in text tokens = map (λ t. number_in (argument_in text t)) tokens

pub record ReadWhole (old new : Texts) (text : List ℕ) (numbers : List (Option ℕ)) : Type 0 where
  pub fault : (random_lexed 0 0 text).fault ≡ None
  pub numbers_are : numbers ≡ numbers_in text (random_lexed 0 0 text).tokens
  pub gained : Gained old new (random_lexed 0 0 text)

-- a fault is as it is where other tokens are cut
abbrev pub AreNumbersRead : Texts → Texts → List ℕ → Result (List (Option ℕ)) LexFault → Type 0
AreNumbersRead old new text (Ok numbers) = ReadWhole old new text numbers
AreNumbersRead old new text (Err reason) = IsCut old new (random_lexed 0 0 text) (Err reason)
