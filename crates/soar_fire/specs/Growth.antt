-- What firing leaves of the table of words and of the letters, also where it is refused.
use Rattle.std.specs.Prelude.{◌≡◌, ℕ, ◌≤◌, List, ◌++◌}
use Rattle.soar_sym.specs.Letters.{last_of}
use Rattle.soar_sym.specs.Words.{Texts}

-- the table has only gained words at its end
abbrev pub Grown : Texts → Texts → Type 0
Grown old later = (more : Texts) × (later ≡ old ++ more)

-- no letter's last number fell
abbrev pub LettersKeep : List ℕ → List ℕ → Type 0
LettersKeep old later = (letter : ℕ) → last_of old letter ≤ last_of later letter

-- `Grown` as a record, which lemmas take
pub record OnlyGrows (old later : Texts) : Type 0 where
  pub grown : Grown old later

-- `LettersKeep` as a record, which lemmas take
pub record OnlyRise (old later : List ℕ) : Type 0 where
  pub kept : LettersKeep old later

-- both
pub record OnlyGains (words : Texts) (letters : List ℕ) (later : Texts) (after : List ℕ) : Type 0 where
  pub words_grow : OnlyGrows words later
  pub letters_rise : OnlyRise letters after
