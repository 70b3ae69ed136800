-- How many brackets are open at once, in a tree and in a row of tokens.
use Rattle.std.specs.Prelude.{ℕ, zero, suc, max, Bool, false, ◌||◌, ◌==◌, List, [], ◌∷◌, Option, Some, None, if◌then◌else◌}
use Rattle.defs_text.specs.Lexing.{Saying, mark}
use Rattle.defs_read.specs.Grammar.{FieldTree, braced, single, ValueTest, AttributeTest, Group, Part, grouped, joined, Parts, no_parts, part_and, Term, simple, called, Terms, no_terms, term_and, WishTree, accepting, rejecting, requiring, prohibiting, comparing, ItemTree, AttributeMake, ActionTree, making, writing, halting, Tree}
use Rattle.defs_read.specs.Spelling.{Tokens}

-- the largest in a list
abbrev pub most : {A : Type 0} → (A → ℕ) → List A → ℕ
most size [] = 0
most size (a ∷ more) = max (size a) (most size more)

-- of what is there
abbrev pub if_there : {A : Type 0} → (A → ℕ) → Option A → ℕ
if_there size None = 0
if_there size (Some a) = size a

-- ---- of trees

-- tests in braces
abbrev pub field_brackets : FieldTree → ℕ
field_brackets (braced b) = 1
field_brackets (single s) = 0

-- those of its value
abbrev pub value_test_brackets : ValueTest → ℕ
value_test_brackets v = field_brackets v.value

-- the most of its attribute, its path and its values
abbrev pub test_brackets : AttributeTest → ℕ
test_brackets t = max (field_brackets t.attribute) (max (most field_brackets t.path) (most value_test_brackets t.values))

-- those inside a group
abbrev pub group_brackets : Group → ℕ
group_brackets g = max (if_there field_brackets g.field) (most test_brackets g.tests)

-- of a condition, with its own
abbrev mutual
  pub part_brackets : Part → ℕ
  part_brackets (grouped negative g) = suc (group_brackets g)
  part_brackets (joined negative p ps) = suc (max (part_brackets p) (parts_brackets ps))

  pub parts_brackets : Parts → ℕ
  parts_brackets no_parts = 0
  parts_brackets (part_and p ps) = max (part_brackets p) (parts_brackets ps)

-- of a value, with its own
abbrev mutual
  pub term_brackets : Term → ℕ
  term_brackets (simple s) = 0
  term_brackets (called f ts) = suc (terms_brackets ts)

  pub terms_brackets : Terms → ℕ
  terms_brackets no_terms = 0
  terms_brackets (term_and t ts) = max (term_brackets t) (terms_brackets ts)

-- those of its referent
abbrev pub wish_brackets : WishTree → ℕ
wish_brackets accepting = 0
wish_brackets rejecting = 0
wish_brackets requiring = 0
wish_brackets prohibiting = 0
wish_brackets (comparing c) = if_there term_brackets c.referent

-- the most of its value and its preferences
abbrev pub item_brackets : ItemTree → ℕ
item_brackets i = max (term_brackets i.value) (most wish_brackets i.wishes)

-- the most of its attribute, its path and its items
abbrev pub make_brackets : AttributeMake → ℕ
make_brackets m = max (term_brackets m.attribute) (max (most term_brackets m.path) (max (item_brackets m.item) (most item_brackets m.items)))

-- those inside an action
abbrev pub action_brackets : ActionTree → ℕ
action_brackets (making m) = max (make_brackets m.make) (most make_brackets m.makes)
action_brackets (writing ts) = terms_brackets ts
action_brackets halting = 0

-- of a production, without the outer brace
abbrev pub brackets : Tree → ℕ
brackets t = max (part_brackets t.part) (max (parts_brackets t.parts) (most (λ a. suc (action_brackets a)) t.actions))

-- ---- of tokens

-- `(` or `{`
abbrev pub is_opening : Saying → Bool
is_opening (mark b) = (b == 40) || (b == 123)
is_opening other = false

-- `)` or `}`
abbrev pub is_closing : Saying → Bool
is_closing (mark b) = (b == 41) || (b == 125)
is_closing other = false

-- how many more may open behind a bracket that opens, where so many may before it
abbrev pub one_fewer : ℕ → Option ℕ
one_fewer zero = None
one_fewer (suc n) = Some n

-- how many more may open behind a token
abbrev pub room_behind : ℕ → Saying → Option ℕ
room_behind n t = if is_opening t then one_fewer n else if is_closing t then Some (suc n) else Some n

-- how many more may open behind the tokens, where so many may before them; none, where a bracket opens that may not
abbrev pub room : ℕ → Tokens → Option ℕ
room n [] = Some n
room n (t ∷ tokens) = elim (room_behind n t) [ Some m ↦ room m tokens | None ↦ None ]
