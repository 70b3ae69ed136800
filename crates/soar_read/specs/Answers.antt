-- What the answers of this crate's calls say.
use Rattle.std.specs.Prelude.{◌≡◌, ℕ, ◌-◌, ◌^◌, ◌<◌, ◌==◌, List, [], ◌∷◌, ◌++◌, length, if◌then◌else◌, Result, Ok, Err}
use Rattle.soar_sym.specs.Words.{Texts}
use Rattle.soar_rule.specs.Productions.{production_seen}
use Rattle.soar_rule.specs.declared.production.Production.{Production}
use Rattle.defs_text.specs.declared.token.Token.{Token}
use Rattle.defs_read.specs.Expansion.{ProductionRead, production_of}
use Rattle.defs_read.specs.Grammar.{Tree}
use Rattle.defs_read.specs.Readers.{Stop, unexpected, deep}
use Rattle.defs_read.specs.ReadingActions.{tree_of}
use Rattle.defs_read.specs.Sayings.{sayings}
use Rattle.soar_read.specs.declared.fault.SyntaxKind.{SyntaxKind}
use Rattle.soar_read.specs.declared.fault.SyntaxKind.TheVariants as syntax
use Rattle.soar_read.specs.declared.fault.ReadFault.{ReadFault}
use Rattle.soar_read.specs.declared.fault.ReadFault.TheVariants as fault

-- the place of the first of so many tokens that are left, or behind the last one
abbrev pub place_left : ℕ → List Token → ℕ → ℕ
place_left behind [] left = behind
place_left behind (t ∷ tokens) left = if length (t ∷ tokens) == left then t.start else place_left t.end tokens left

abbrev pub stop_of : SyntaxKind → Stop
stop_of syntax.Unexpected = unexpected
stop_of syntax.Deep = deep

-- the table has gained some words
abbrev pub Grown : Texts → Texts → Type 0
Grown old new = (more : Texts) × (new ≡ old ++ more)

-- what a tree of these tokens means
abbrev pub meaning : Texts → List Token → Tree → ProductionRead
meaning words tokens tree = production_of words (sayings words tokens) tree

-- the tokens spell the tree, and the production and the new words are what it means
pub record ReadAs (old new : Texts) (tokens : List Token) (production : Production) : Type 0 where
  pub tree : Tree
  pub spelled : tree_of (sayings old tokens) ≡ Ok tree
  pub means : production_seen production ≡ (meaning old tokens tree).production
  pub words : new ≡ (meaning old tokens tree).words

-- no tree is spelled, and so many tokens are left where reading stops
pub record RefusedAs (old new : Texts) (tokens : List Token) (place : ℕ) (kind : SyntaxKind) : Type 0 where
  pub left : ℕ
  pub stops : tree_of (sayings old tokens) ≡ Err (stop_of kind, left)
  pub place_is : place ≡ place_left 0 tokens left
  pub words : new ≡ old

-- the new words are more than a table holds
pub record SpentAs (old new : Texts) (tokens : List Token) : Type 0 where
  pub tree : Tree
  pub spelled : tree_of (sayings old tokens) ≡ Ok tree
  pub spent : 2 ^ 32 - 1 < length (meaning old tokens tree).words
  pub grown : Grown old new

-- each answer, exactly where it comes; only want of memory is free
abbrev pub IsRead : Texts → Texts → List Token → Result Production ReadFault → Type 0
IsRead old new tokens (Ok production) = ReadAs old new tokens production
IsRead old new tokens (Err (fault.SyntaxFault place kind)) = RefusedAs old new tokens place kind
IsRead old new tokens (Err fault.WordsSpent) = SpentAs old new tokens
IsRead old new tokens (Err fault.NoMemory) = Grown old new
