-- What the trees of productions keep beside their form: the side rules of the grammar (Soar manual, chapter 3, production syntax).
use Rattle.std.specs.Prelude.{◌≡◌, ◌⊎◌, ◌≤◌, ◌<◌, ℕ, suc, Bool, true, false, not, List, [], ◌∷◌, Option, Some, None, codes}
use Rattle.soar_rule.specs.declared.action.Func.{Func}
use Rattle.soar_rule.specs.declared.action.Func.TheVariants as func
use Rattle.defs_read.specs.Grammar.{named, a_constant, Simple, one_of, tested, FieldTree, braced, single, ValueTest, AttributeTest, Group, Part, grouped, joined, Parts, no_parts, part_and, Term, simple, called, Terms, no_terms, term_and, Compared, WishTree, accepting, rejecting, requiring, prohibiting, comparing, ItemTree, AttributeMake, ActionTree, making, writing, halting, Flag, operator_support, instance_support, is_default, is_chunk, Tree}

-- each of a list is so
abbrev pub AllOf : {A : Type 0} → (A → Type 0) → List A → Type 0
AllOf ok [] = Unit {0}
AllOf ok (a ∷ more) = ok a × AllOf ok more

-- what is there is so
abbrev pub IfThere : {A : Type 0} → (A → Type 0) → Option A → Type 0
IfThere ok (Some a) = ok a
IfThere ok None = Unit {0}

-- ---- fields

-- one of the signs `<`, `>`, `<=`, `>=`, `<>`, `<=>`, `=`
abbrev pub IsRelation : ℕ → Type 0
IsRelation k = k < 7

-- a disjunction as it is, and a test whose sign is a relation
abbrev pub IsSimple : Simple → Type 0
IsSimple (one_of a) = Unit {0}
IsSimple (tested t) = IfThere IsRelation t.relation

-- each test of a field is so
abbrev pub IsField : FieldTree → Type 0
IsField (braced b) = IsSimple b.first × AllOf IsSimple b.others
IsField (single s) = IsSimple s

-- ---- conditions

-- the value behind an attribute, with `+` or without
abbrev pub IsValueTest : ValueTest → Type 0
IsValueTest v = IsField v.value

-- an attribute, its path and its values
abbrev pub IsAttributeTest : AttributeTest → Type 0
IsAttributeTest t = IsField t.attribute × AllOf IsField t.path × AllOf IsValueTest t.values

-- the bare word `state` alone, which in front of a group is its mark
abbrev pub state_word : FieldTree
state_word = single (tested (record { relation = None; single = a_constant (named (codes "state") true) }))

-- a group without the mark has a field other than that word
abbrev pub IsMarkPlain : Group → Type 0
IsMarkPlain g = g.state ≡ false → g.field ≡ Some state_word → ⊥

-- a group: its mark, its field and its tests
abbrev pub IsGroup : Group → Type 0
IsGroup g = IsMarkPlain g × IfThere IsField g.field × AllOf IsAttributeTest g.tests

-- a condition: a group, or others in braces
abbrev mutual
  pub IsPart : Part → Type 0
  IsPart (grouped negative g) = IsGroup g
  IsPart (joined negative p ps) = IsPart p × AreParts ps

  pub AreParts : Parts → Type 0
  AreParts no_parts = Unit {0}
  AreParts (part_and p ps) = IsPart p × AreParts ps

-- ---- values

-- how many values a function takes
abbrev pub Takes : Func → ℕ → Type 0
Takes func.Plus n = 1 ≤ n
Takes func.Times n = 1 ≤ n
Takes func.Minus n = 1 ≤ n
Takes func.Div n = n ≡ 2
Takes func.Mod n = n ≡ 2
Takes func.Abs n = n ≡ 1
Takes func.Min n = 1 ≤ n
Takes func.Max n = 1 ≤ n
Takes func.Concat n = Unit {0}
Takes func.IfEq n = n ≡ 4
Takes func.StrLen n = n ≡ 1
Takes func.Crlf n = n ≡ 0

-- how many values there are
abbrev pub count_of : Terms → ℕ
count_of no_terms = 0
count_of (term_and t ts) = suc (count_of ts)

-- each function has its number of values
abbrev mutual
  pub IsTerm : Term → Type 0
  IsTerm (simple s) = Unit {0}
  IsTerm (called f ts) = Takes f (count_of ts) × AreTerms ts

  pub AreTerms : Terms → Type 0
  AreTerms no_terms = Unit {0}
  AreTerms (term_and t ts) = IsTerm t × AreTerms ts

-- ---- actions

-- one of the signs `<`, `>` and `=`
abbrev pub IsComparing : ℕ → Type 0
IsComparing k = (k ≡ 0) ⊎ ((k ≡ 1) ⊎ (k ≡ 6))

-- the sign, and the referent where there is one
abbrev pub IsCompared : Compared → Type 0
IsCompared c = IsComparing c.sign × IfThere IsTerm c.referent

-- a preference
abbrev pub IsWish : WishTree → Type 0
IsWish accepting = Unit {0}
IsWish rejecting = Unit {0}
IsWish requiring = Unit {0}
IsWish prohibiting = Unit {0}
IsWish (comparing c) = IsCompared c

-- a value with its preferences
abbrev pub IsItem : ItemTree → Type 0
IsItem i = IsTerm i.value × AllOf IsWish i.wishes

-- nothing is there
abbrev pub has_none : {A : Type 0} → Option A → Bool
has_none None = true
has_none (Some a) = false

-- it compares, and has no referent
abbrev pub is_bare_wish : WishTree → Bool
is_bare_wish accepting = false
is_bare_wish rejecting = false
is_bare_wish requiring = false
is_bare_wish prohibiting = false
is_bare_wish (comparing c) = has_none c.referent

-- the last one is bare; where there is none, what stood before is
abbrev pub ends_bare : Bool → List WishTree → Bool
ends_bare bare [] = bare
ends_bare bare (w ∷ wishes) = ends_bare (is_bare_wish w) wishes

-- behind an item whose last preference is bare no item stands: its value would be the referent
abbrev pub AreApart : Bool → List ItemTree → Type 0
AreApart bare [] = Unit {0}
AreApart bare (i ∷ items) = (bare ≡ false) × AreApart (ends_bare false i.wishes) items

-- what an action makes of an attribute: each item, and none behind a bare preference
abbrev pub IsMake : AttributeMake → Type 0
IsMake m = IsTerm m.attribute × AllOf IsTerm m.path × IsItem m.item × AllOf IsItem m.items × AreApart (ends_bare false m.item.wishes) m.items

-- an action: what it makes, or what it writes
abbrev pub IsAction : ActionTree → Type 0
IsAction (making m) = IsMake m.make × AllOf IsMake m.makes
IsAction (writing ts) = AreTerms ts
IsAction halting = Unit {0}

-- ---- productions

-- what a flag is about: the support of what is made, or else the kind of the production
abbrev pub is_of_support : Flag → Bool
is_of_support operator_support = true
is_of_support instance_support = true
is_of_support is_default = false
is_of_support is_chunk = false

-- at most one flag is about each
abbrev pub AreFlags : List Flag → Type 0
AreFlags [] = Unit {0}
AreFlags (f ∷ flags) = AllOf (λ g. is_of_support g ≡ not (is_of_support f)) flags × AreFlags flags

-- a tree that a text can have
abbrev pub Lawful : Tree → Type 0
Lawful t = AreFlags t.flags × IsPart t.part × AreParts t.parts × AllOf IsAction t.actions
