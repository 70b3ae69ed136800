-- What it means that a token's text became a word of the table.
use Rattle.std.specs.Prelude.{◌≡◌, ℕ, ◌-◌, ◌^◌, ◌<◌, List, [], ◌∷◌, length, Result, Ok, Err}
use Rattle.soar_sym.specs.Words.{Texts, with_text, with_texts}
use Rattle.soar_sym.specs.declared.symbol.Sym.{Sym}
use Rattle.defs_text.specs.Lexing.{Saying}
use Rattle.defs_text.specs.Numbered.{word_in, kind_in, texts_before}
use Rattle.defs_text.specs.declared.token.TokenKind.{TokenKind}
use Rattle.defs_text.specs.declared.token.LexFault.{LexFault}
use Rattle.defs_text.specs.declared.token.LexFault.TheVariants as fault

-- why a text got no word
abbrev pub Refused : Texts → Texts → Texts → LexFault → Type 0
Refused old new more fault.WordsSpent = (2 ^ 32 - 1 < length (with_texts old more)) × (new ≡ old)
Refused old new more fault.NoMemory = new ≡ old
Refused old new more other = ⊥

pub record Interned (old new : Texts) (text : List ℕ) (symbol : Sym) : Type 0 where
  pub word : symbol ≡ word_in new text
  pub words : new ≡ with_text old text
  pub few : length new < 2 ^ 32

abbrev pub IsInterned : Texts → Texts → List ℕ → Result Sym LexFault → Type 0
IsInterned old new text (Ok symbol) = Interned old new text symbol
IsInterned old new text (Err reason) = Refused old new (text ∷ []) reason

pub record Named (old new : Texts) (says : Saying) (kind : TokenKind) : Type 0 where
  pub kind_is : kind ≡ kind_in new says
  pub words : new ≡ with_texts old (texts_before says [])
  pub few : length old < length new → length new < 2 ^ 32

abbrev pub IsNamed : Texts → Texts → Saying → Result TokenKind LexFault → Type 0
IsNamed old new says (Ok kind) = Named old new says kind
IsNamed old new says (Err reason) = Refused old new (texts_before says []) reason
