-- That what is printed is read back.
use Rattle.std.specs.Prelude.{◌≡◌, ◌≤◌, ◌<◌, ◌^◌, ℕ, List, ◌++◌, length, map, None, Ok}
use Rattle.soar_sym.specs.Words.{Texts, architecture}
use Rattle.soar_rule.specs.Checking.{ordered}
use Rattle.soar_rule.specs.Productions.{ProductionOf}
use Rattle.defs_text.specs.Lexing.{Lexed, lexed}
use Rattle.defs_text.specs.Numbered.{words_after}
use Rattle.defs_read.specs.Expansion.{ProductionRead, production_of}
use Rattle.defs_read.specs.Grammar.{Tree}
use Rattle.defs_read.specs.Printing.{production_text, lines_text}
use Rattle.defs_read.specs.ReadingActions.{most_open, tree_of}
use Rattle.defs_read.specs.Spelling.{Tokens}
use Rattle.reading_laws.specs.Brackets.{brackets}
use Rattle.reading_laws.specs.InOrder.{in_text_order}
use Rattle.reading_laws.specs.Printable.{IsPrintable}
use Rattle.reading_laws.specs.TreeBack.{tree_back}

-- the printed text
abbrev pub printed : Texts → ProductionOf → List ℕ
printed words p = lines_text (production_text words p)

abbrev pub tokens_in : Lexed → Tokens
tokens_in l = map (λ t. t.says) l.tokens

-- The text is cut without a fault, its tokens are read as the tree, and in the table with their words the tree means the production, with no new variable.
pub record ReadsBack (words : Texts) (p : ProductionOf) (l : Lexed) : Type 0 where
  pub cut : l.fault ≡ None
  pub read : tree_of (tokens_in l) ≡ Ok (tree_back words p)
  pub same : production_of (words_after words l.tokens) (tokens_in l) (tree_back words p) ≡ record { production = p; words = words_after words l.tokens }

-- what is printed is read back, within the limit on brackets
abbrev pub PrintedIsRead : Type 0
PrintedIsRead = (words : Texts) (p : ProductionOf) → IsPrintable words p → brackets (tree_back words p) ≤ most_open → ReadsBack words p (lexed (printed words p))

-- what a tree means, in the table with the words of a text's tokens
abbrev pub meaning : Texts → Lexed → Tree → ProductionRead
meaning words l tree = production_of (words_after words l.tokens) (tokens_in l) tree

-- What is read is such as is read back, in a table that has grown from the architecture's words. Fresh variables are told apart by their numbers in decimal, so there is a bound on bytes and on variables.
abbrev pub ReadIsPrintable : Type 0
ReadIsPrintable = (words more : Texts) (text : List ℕ) (tree : Tree) → words ≡ architecture ++ more → length text < 2 ^ 32 → tree_of (tokens_in (lexed text)) ≡ Ok tree
    → length (meaning words (lexed text) tree).production.vars < 2 ^ 32 → IsPrintable (meaning words (lexed text) tree).words (meaning words (lexed text) tree).production

-- what was checked is printed as a text that is read to it, its variables compared by name, and what is read there is checked already
pub record IsBack (words : Texts) (q : ProductionOf) : Type 0 where
  pub read : ReadsBack words (in_text_order q) (lexed (printed words q))
  pub checked : ordered (in_text_order q) ≡ Ok (in_text_order q)

-- what the check gives for what was read comes back
abbrev pub CheckedIsRead : Type 0
CheckedIsRead = (words : Texts) (p q : ProductionOf) → IsPrintable words p → ordered p ≡ Ok q → IsBack words q
