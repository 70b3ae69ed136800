-- That the reading of productions is exact.
use Rattle.std.specs.Prelude.{◌≡◌, ◌≤◌, ◌-◌, ℕ, Ok, Err, length}
use Rattle.defs_read.specs.Grammar.{Tree}
use Rattle.defs_read.specs.Readers.{Stop}
use Rattle.defs_read.specs.ReadingActions.{most_open, tree_of}
use Rattle.defs_read.specs.Spelling.{Tokens, spelling}
use Rattle.reading_laws.specs.Brackets.{brackets}
use Rattle.reading_laws.specs.Lawful.{Lawful}
use Rattle.reading_laws.specs.Refusals.{IsSpelled, RefusedAt}

-- what is read is spelled so
abbrev pub ReadIsSpelled : Type 0
ReadIsSpelled = (tokens : Tokens) (tree : Tree) → tree_of tokens ≡ Ok tree → IsSpelled tree tokens

-- what is spelled so is read, so that a text has one tree
abbrev pub SpelledIsRead : Type 0
SpelledIsRead = (tree : Tree) → Lawful tree → brackets tree ≤ most_open → tree_of (spelling tree) ≡ Ok tree

-- what is refused is refused at the first token with which no production goes on
abbrev pub RefusedIsFirst : Type 0
RefusedIsFirst = (tokens : Tokens) (why : Stop) (left : ℕ) → tree_of tokens ≡ Err (why, left) → (left ≤ length tokens) × RefusedAt tokens (length tokens - left) why
