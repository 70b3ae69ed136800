-- Texts of productions that were read by hand: what is read is spelled so, and where reading stops.
use Rattle.std.specs.Prelude.{◌≡◌, ℕ, List, map, Result, Ok, Err, codes}
use Rattle.defs_text.specs.Lexing.{lexed}
use Rattle.defs_read.specs.Grammar.{Tree}
use Rattle.defs_read.specs.Readers.{Stop, unexpected}
use Rattle.defs_read.specs.ReadingActions.{tree_of}
use Rattle.defs_read.specs.Spelling.{Tokens, spelling}

abbrev pub tokens_of : List ℕ → Tokens
tokens_of text = map (λ t. t.says) (lexed text).tokens

abbrev pub SpelledBy : Tokens → Result Tree (Stop × ℕ) → Type 0
SpelledBy tokens (Ok tree) = spelling tree ≡ tokens
SpelledBy tokens (Err stop) = ⊥

-- a tree is read, and it is spelled by the same tokens
abbrev pub IsRead : List ℕ → Type 0
IsRead text = SpelledBy (tokens_of text) (tree_of (tokens_of text))

-- reading stops where so many tokens are left
abbrev pub IsLeft : List ℕ → Stop → ℕ → Type 0
IsLeft text why left = tree_of (tokens_of text) ≡ Err (why, left)

-- a documentation string, a path, a negated attribute, tests in braces, a disjunction and a call
abbrev pub Fields : Type 0
Fields =
    IsRead (codes "sp {demo \"doc\" (state <s> ^io.input-link <il> -^done) (<il> ^temp {<t> > 30} ^mode << on auto >>) --> (<s> ^alarm <t> <a>) (<a> ^level (+ <t> 1))}")

-- negations of groups and of braces, flags, and each kind of preference
abbrev pub Negations : Type 0
Negations =
    IsRead (codes "sp {n :o-support :chunk (state <s> ^a <x>) -(<s> ^b <x>) -{(<s> ^c <y>) -{(<y> ^d)}} {(<x> ^e)} --> (<s> ^operator <o> + ! - ~ > < = <x> > <x> < 3) (write |a b| (crlf)) (halt)}")

-- an arrow is missing: `(halt)` is a condition without attributes, and the brace behind it is refused
abbrev pub NoArrow : Type 0
NoArrow = IsLeft (codes "sp {e (state <s> ^a 1) (halt)}") unexpected 1

-- an action's value is missing
abbrev pub NoValue : Type 0
NoValue = IsLeft (codes "sp {e (state <s> ^a 1) --> (<s> ^b)}") unexpected 2

-- two flags that exclude each other: the second is refused
abbrev pub TwoFlags : Type 0
TwoFlags = IsLeft (codes "sp {e :o-support :i-support (state <s> ^a 1) --> }") unexpected 10

-- a function with a value too many, and one that there is not
abbrev pub WrongCalls : Type 0
WrongCalls =
    IsLeft (codes "sp {e (state <s> ^a 1) --> (<s> ^b (abs 1 2))}") unexpected 4 × IsLeft (codes "sp {e (state <s> ^a 1) --> (<s> ^b (sqrt 1))}") unexpected 5

-- `state` in bars is a field, and the bare word is the mark
abbrev pub StateInBars : Type 0
StateInBars = IsRead (codes "sp {e (state |state| ^a 1) (|state| ^b 2) --> }")
