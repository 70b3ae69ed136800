-- That what was read is printed and read back with each later table of words too, as words only join a table at its end.
use Rattle.std.specs.Prelude.{◌≡◌, ◌≤◌, ◌<◌, ◌^◌, ℕ, List, ◌++◌, length, Ok}
use Rattle.soar_sym.specs.Words.{Texts, architecture}
use Rattle.soar_rule.specs.Checking.{ordered}
use Rattle.soar_rule.specs.Productions.{ProductionOf}
use Rattle.defs_text.specs.Lexing.{lexed}
use Rattle.defs_read.specs.Expansion.{ProductionRead}
use Rattle.defs_read.specs.Grammar.{Tree}
use Rattle.defs_read.specs.ReadingActions.{most_open, tree_of}
use Rattle.reading_laws.specs.Brackets.{brackets}
use Rattle.reading_laws.specs.Printable.{IsPrintable}
use Rattle.reading_laws.specs.TreeBack.{tree_back}
use Rattle.reading_laws.specs.WayBack.{printed, tokens_in, ReadsBack, meaning, IsBack}

-- The text is read as the tree, in a table that has grown from the architecture's words, within the bounds on bytes and on variables. It means this production, and this is the table with the words of its tokens and of its fresh variables.
pub record IsReadAs (words : Texts) (text : List ℕ) (tree : Tree) (r : ProductionRead) : Type 0 where
  pub grown : (more : Texts) × (words ≡ architecture ++ more)
  pub small : length text < 2 ^ 32
  pub read : tree_of (tokens_in (lexed text)) ≡ Ok tree
  pub means : r ≡ meaning words (lexed text) tree
  pub few : length r.production.vars < 2 ^ 32

-- it can be printed with each later table
abbrev pub ReadStaysPrintable : Type 0
ReadStaysPrintable = (words : Texts) (text : List ℕ) (tree : Tree) (r : ProductionRead) → IsReadAs words text tree r → (more : Texts) → IsPrintable (r.words ++ more) r.production

-- there its text is the same, and is read back to it, within the limit on brackets
abbrev pub ReadIsReadLater : Type 0
ReadIsReadLater = (words : Texts) (text : List ℕ) (tree : Tree) (r : ProductionRead) → IsReadAs words text tree r → brackets (tree_back r.words r.production) ≤ most_open → (more : Texts)
    → (printed (r.words ++ more) r.production ≡ printed r.words r.production) × ReadsBack (r.words ++ more) r.production (lexed (printed r.words r.production))

-- so with what the check gives for it, its variables compared by name
abbrev pub CheckedIsReadLater : Type 0
CheckedIsReadLater = (words : Texts) (text : List ℕ) (tree : Tree) (r : ProductionRead) (q : ProductionOf) → IsReadAs words text tree r → ordered r.production ≡ Ok q → (more : Texts)
    → (printed (r.words ++ more) q ≡ printed r.words q) × IsBack (r.words ++ more) q
