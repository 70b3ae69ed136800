-- The tree that tokens spell: conditions, and the flags in front of them.
use Rattle.std.specs.Prelude.{ℕ, zero, suc, Bool, true, false, ◌||◌, not, List, [], ◌∷◌, Option, Some, None, Ok, Err, if◌then◌else◌, length, codes}
use Rattle.defs_text.specs.Lexing.{Saying}
use Rattle.defs_read.specs.Grammar.{FieldTree, ValueTest, AttributeTest, Group, Part, grouped, joined, Parts, no_parts, part_and, Flag, operator_support, instance_support, is_default, is_chunk}
use Rattle.defs_read.specs.Readers.{deep, unexpected, then_read, begins, token, taken, several, many, flag, optional}
use Rattle.defs_read.specs.ReadingFields.{begins_field, field_at}
use Rattle.defs_read.specs.ReadingTokens.{ReadOf, is_mark, is_sign, is_bare}
use Rattle.defs_read.specs.Spelling.{Tokens, flag_text}

-- ---- conditions

abbrev pub value_test_at : ℕ → Tokens → ReadOf ValueTest
value_test_at d ts = then_read (field_at d ts) (λ f rest. then_read (flag (is_sign 7) rest) (λ accept rest. Ok (record { value = f; accept = accept }, rest)))

abbrev pub step_at : ℕ → Tokens → ReadOf FieldTree
step_at d ts = then_read (token (is_mark 46) ts) (λ _ rest. field_at d rest)

abbrev pub attribute_test_at : ℕ → Tokens → ReadOf AttributeTest
attribute_test_at d ts =
    then_read (flag (is_sign 8) ts) (λ negative rest. then_read (token (is_mark 94) rest) (λ _ rest. then_read (field_at d rest) (λ attribute rest.
    then_read (many (is_mark 46) (step_at d) rest) (λ path rest. then_read (many begins_field (value_test_at d) rest) (λ values rest.
    Ok (record { negative = negative; attribute = attribute; path = path; values = values }, rest))))))

abbrev pub begins_test : Saying → Bool
begins_test t = is_sign 8 t || is_mark 94 t

-- the bare word `state` in front is the mark
abbrev pub group_at : ℕ → Tokens → ReadOf Group
group_at d ts =
    then_read (token (is_mark 40) ts) (λ _ rest. then_read (flag (is_bare (codes "state")) rest) (λ state rest. then_read (optional begins_field (field_at d) rest) (λ field rest.
    then_read (many begins_test (attribute_test_at d) rest) (λ tests rest. then_read (token (is_mark 41) rest) (λ _ rest.
    Ok (record { state = state; field = field; tests = tests }, rest))))))

abbrev pub parts_of : List Part → Parts
parts_of [] = no_parts
parts_of (p ∷ ps) = part_and p (parts_of ps)

abbrev pub opens : Saying → Bool
opens t = is_mark 40 t || is_mark 123 t

abbrev pub begins_part : Saying → Bool
begins_part t = is_sign 8 t || opens t

abbrev pub joined_at : (Tokens → ReadOf Part) → Bool → Tokens → ReadOf Part
joined_at read negative ts =
    then_read (token (is_mark 123) ts) (λ _ rest. then_read (read rest) (λ p rest. then_read (many begins_part read rest) (λ ps rest.
    then_read (token (is_mark 125) rest) (λ _ rest. Ok (joined negative p (parts_of ps), rest)))))

abbrev pub grouped_at : ℕ → Bool → Tokens → ReadOf Part
grouped_at d negative ts = then_read (group_at d ts) (λ g rest. Ok (grouped negative g, rest))

-- a condition, where so many more brackets may be open
unfoldable pub part_at : ℕ → Tokens → ReadOf Part
part_at zero ts = then_read (flag (is_sign 8) ts) (λ negative rest. elim (begins opens rest) [ true ↦ Err (deep, length rest) | false ↦ Err (unexpected, length rest) ])
part_at (suc d) ts =
    then_read (flag (is_sign 8) ts) (λ negative rest. elim (begins (is_mark 40) rest) [ true ↦ grouped_at d negative rest | false ↦ joined_at (part_at d) negative rest ])

-- ---- flags: each at most once, and two pairs exclude each other

pub record Seen : Type 0 where
  pub support : Bool
  pub kind : Bool

abbrev pub as_flag : Saying → Option Flag
as_flag t =
    if is_bare (flag_text operator_support) t then Some operator_support
    else if is_bare (flag_text instance_support) t then Some instance_support
    else if is_bare (flag_text is_default) t then Some is_default
    else if is_bare (flag_text is_chunk) t then Some is_chunk
    else None

abbrev pub is_open_for : Seen → Flag → Bool
is_open_for s operator_support = not s.support
is_open_for s instance_support = not s.support
is_open_for s is_default = not s.kind
is_open_for s is_chunk = not s.kind

abbrev pub with_flag : Seen → Flag → Seen
with_flag s operator_support = record s { support = true }
with_flag s instance_support = record s { support = true }
with_flag s is_default = record s { kind = true }
with_flag s is_chunk = record s { kind = true }

abbrev pub may_follow : Seen → Saying → Bool
may_follow s t = elim (as_flag t) [ Some f ↦ is_open_for s f | None ↦ false ]

abbrev pub flags_at : Tokens → ReadOf (List Flag)
flags_at ts = several (λ s ts. begins (may_follow s) ts) with_flag (taken as_flag) (record { support = false; kind = false }) ts
