-- A loop that reads several, half way.
use Rattle.std.specs.Prelude.{◌≡◌, true, ℕ, ◌<◌, ◌≤◌, Bool, List, ◌++◌, map, length, Ok}
use Rattle.std.specs.List.{list_all}
use Rattle.soar_sym.specs.Words.{Texts}
use Rattle.defs_text.specs.Lexing.{Saying}
use Rattle.defs_text.specs.declared.token.Token.{Token}
use Rattle.defs_read.specs.Readers.{begins, then_read, several_within, several}
use Rattle.defs_read.specs.ReadingTokens.{ReadOf}
use Rattle.defs_read.specs.Spelling.{Tokens}
use Rattle.defs_read.specs.Sayings.{AreTokensKnown, sayings}

-- what was read before, and then what is read from here
abbrev pub with_front : {A : Type 0} → List A → ReadOf (List A) → ReadOf (List A)
with_front front r = then_read r (λ more rest. Ok (front ++ more, rest))

-- The items so far, and those that are read from the rest, are what is read from all tokens. Each takes a token at least, so the turns that are left are enough.
pub record Underway {V A S : Type 0} (goes : S → Tokens → Bool) (next : S → A → S) (read : Tokens → ReadOf A) (first : S) (view : V → A) (is_known : V → Bool)
    (words : Texts) (tokens : List Token) (s : S) (items : List V) (rest : List Token) : Type 0 where
  pub turns : ℕ
  pub enough : length rest < turns
  pub gives : with_front (map view items) (several_within turns goes next read s (sayings words rest)) ≡ several goes next read first (sayings words tokens)
  pub known : list_all is_known items ≡ true
  pub rest_known : AreTokensKnown words rest
  pub within : length rest ≤ length tokens

-- the same, where only the front token tells whether one more is read
abbrev pub UnderwayMany : {V A : Type 0} → (Saying → Bool) → (Tokens → ReadOf A) → (V → A) → (V → Bool) → Texts → List Token → List V → List Token → Type 0
UnderwayMany begin read view is_known words tokens items rest =
    Underway {S = record {}} (λ _ ts. begins begin ts) (λ s a. s) read (record {}) view is_known words tokens (record {}) items rest
