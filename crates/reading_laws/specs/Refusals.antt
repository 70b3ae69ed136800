-- Where the tokens of a text stop being the front of any production.
use Rattle.std.specs.Prelude.{◌≡◌, ◌≤◌, ◌<◌, ℕ, suc, ◌++◌, None, Some, length, take}
use Rattle.defs_read.specs.Grammar.{Tree}
use Rattle.defs_read.specs.Readers.{Stop, unexpected, deep}
use Rattle.defs_read.specs.ReadingActions.{most_open}
use Rattle.defs_read.specs.Spelling.{Tokens, spelling}
use Rattle.reading_laws.specs.Brackets.{brackets, room}
use Rattle.reading_laws.specs.Lawful.{Lawful}

-- the tokens spell the production
pub record IsSpelled (tree : Tree) (tokens : Tokens) : Type 0 where
  pub spelled : spelling tree ≡ tokens
  pub lawful : Lawful tree
  pub within : brackets tree ≤ most_open

-- the tokens begin a production, with any number of brackets
pub record Begins (tokens : Tokens) : Type 0 where
  pub tree : Tree
  pub more : Tokens
  pub spelled : spelling tree ≡ tokens ++ more
  pub lawful : Lawful tree

-- the tokens begin a production within the limit
abbrev pub BeginsWithin : Tokens → Type 0
BeginsWithin tokens = (b : Begins tokens) × (brackets b.tree ≤ most_open)

-- no bracket opens where as many are open as may be; the outer brace is one more
abbrev pub IsShallow : Tokens → Type 0
IsShallow tokens = (left : ℕ) × (room (suc most_open) tokens ≡ Some left)

-- The first `at` tokens begin a production, and with one more they begin none; or only one that has more brackets open than may be, the next token being the bracket that opens too many.
pub record RefusedAt (tokens : Tokens) (at : ℕ) (why : Stop) : Type 0 where
  pub inside : at ≤ length tokens
  pub begun : Begins (take at tokens)
  pub shallow : IsShallow (take at tokens)
  pub no_further : why ≡ unexpected → at < length tokens → Begins (take (suc at) tokens) → ⊥
  pub not_whole : why ≡ unexpected → at ≡ length tokens → (tree : Tree) → Lawful tree → spelling tree ≡ tokens → ⊥
  pub goes_on : why ≡ deep → (at < length tokens) × Begins (take (suc at) tokens)
  pub none_within : why ≡ deep → BeginsWithin (take (suc at) tokens) → ⊥
  pub too_deep : why ≡ deep → room (suc most_open) (take (suc at) tokens) ≡ None
