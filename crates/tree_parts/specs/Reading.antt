-- What readers answer.
use Rattle.std.specs.Prelude.{◌≡◌, Bool, ◌<◌, ◌≤◌, List, length, Result, Ok, Err}
use Rattle.std.specs.Borrow.{Bor}
use Rattle.soar_sym.specs.Words.{Texts}
use Rattle.defs_text.specs.Lexing.{Saying}
use Rattle.defs_text.specs.declared.token.Token.{Token}
use Rattle.defs_read.specs.Readers.{unexpected, deep, token}
use Rattle.defs_read.specs.Reading.{Seen}
use Rattle.defs_read.specs.ReadingTokens.{ReadOf}
use Rattle.defs_read.specs.Spelling.{Tokens}
use Rattle.defs_read.specs.Sayings.{AreTokensKnown, sayings}
use Rattle.tree_parts.specs.declared.reader.flag.SeenFlags.{SeenFlags}
use Rattle.tree_parts.specs.declared.stop.Stop.{Stop}
use Rattle.tree_parts.specs.declared.stop.Stop.TheVariants as stop

-- a stop is where reading stops, unless memory runs out
abbrev pub Stops : {A : Type 0} → Stop → ReadOf A → Type 0
Stops stop.NoMemory read = Unit {0}
Stops (stop.Unexpected left) read = read ≡ Err (unexpected, left)
Stops (stop.Deep left) read = read ≡ Err (deep, left)

-- what was read, as it is seen, and the tokens that are left, are what the definition gives
abbrev pub Gives : {X A : Type 0} → (X → A) → Texts → Result (X × Bor (List Token)) Stop → ReadOf A → Type 0
Gives view words (Ok x) read = read ≡ Ok (view x.0, sayings words x.1.now)
Gives view words (Err e) read = Stops e read

-- what was read of these tokens is what the definition reads of them
abbrev pub Reads : {X A : Type 0} → (Texts → X → A) → (Tokens → ReadOf A) → Texts → List Token → Result (X × Bor (List Token)) Stop → Type 0
Reads view read words tokens result = Gives (view words) words result (read (sayings words tokens))

-- one such token was taken
abbrev pub Takes : (Saying → Bool) → Texts → List Token → Result (Bor (List Token)) Stop → Type 0
Takes is words tokens (Ok rest) = token is (sayings words tokens) ≡ Ok (record {}, sayings words rest.now)
Takes is words tokens (Err e) = Stops e (token is (sayings words tokens))

-- tokens that are left once one or more were taken
pub record IsLater (words : Texts) (before after : List Token) : Type 0 where
  pub known : AreTokensKnown words after
  pub less : length after < length before

-- tokens that are left once some were taken
pub record IsRest (words : Texts) (before after : List Token) : Type 0 where
  pub known : AreTokensKnown words after
  pub within : length after ≤ length before

-- which flags have been read
abbrev pub seen_flags : SeenFlags → Seen
seen_flags s = record { support = s.support; kind = s.kind }
