-- The tree that tokens spell: preferences, actions, and the whole production.
use Rattle.std.specs.Prelude.{ℕ, Bool, true, false, ◌||◌, ◌==◌, List, Option, Some, None, Result, Ok, Err, if◌then◌else◌, codes}
use Rattle.defs_text.specs.Lexing.{Saying, sign, variable_named, word_of, documentation}
use Rattle.defs_read.specs.Grammar.{Term, Compared, WishTree, accepting, rejecting, requiring, prohibiting, comparing, ItemTree, AttributeMake, ActionTree, making, writing, halting, Tree}
use Rattle.defs_read.specs.Readers.{Stop, then_read, begins, token, taken, many, optional, at_end}
use Rattle.defs_read.specs.Reading.{begins_part, part_at, parts_of, flags_at}
use Rattle.defs_read.specs.ReadingTokens.{ReadOf, is_mark, is_sign, is_arrow, is_bare}
use Rattle.defs_read.specs.ReadingValues.{begins_term, terms_of, term_at}
use Rattle.defs_read.specs.Spelling.{Tokens}

-- ---- preferences

abbrev pub is_comparing : Saying → Bool
is_comparing t = is_sign 0 t || (is_sign 1 t || is_sign 6 t)

abbrev pub as_comparing : Saying → Option ℕ
as_comparing (sign k) = if (k == 0) || ((k == 1) || (k == 6)) then Some k else None
as_comparing other = None

-- a referent is read exactly where the next token begins a value
abbrev pub compared_at : ℕ → Tokens → ReadOf Compared
compared_at d ts = then_read (taken as_comparing ts) (λ k rest. then_read (optional begins_term (term_at d) rest) (λ r rest. Ok (record { sign = k; referent = r }, rest)))

abbrev pub as_mark_wish : Saying → Option WishTree
as_mark_wish t =
    if is_sign 7 t then Some accepting else if is_sign 8 t then Some rejecting else if is_mark 33 t then Some requiring else if is_mark 126 t then Some prohibiting else None

abbrev pub begins_wish : Saying → Bool
begins_wish t = is_comparing t || elim (as_mark_wish t) [ Some w ↦ true | None ↦ false ]

abbrev pub wish_at : ℕ → Tokens → ReadOf WishTree
wish_at d ts =
    elim (begins is_comparing ts) [
      | true ↦ then_read (compared_at d ts) (λ c rest. Ok (comparing c, rest))
      | false ↦ taken as_mark_wish ts
    ]

abbrev pub item_at : ℕ → Tokens → ReadOf ItemTree
item_at d ts = then_read (term_at d ts) (λ v rest. then_read (many begins_wish (wish_at d) rest) (λ ws rest. Ok (record { value = v; wishes = ws }, rest)))

-- ---- actions

abbrev pub term_step_at : ℕ → Tokens → ReadOf Term
term_step_at d ts = then_read (token (is_mark 46) ts) (λ _ rest. term_at d rest)

abbrev pub make_at : ℕ → Tokens → ReadOf AttributeMake
make_at d ts =
    then_read (token (is_mark 94) ts) (λ _ rest. then_read (term_at d rest) (λ attribute rest. then_read (many (is_mark 46) (term_step_at d) rest) (λ path rest.
    then_read (item_at d rest) (λ item rest. then_read (many begins_term (item_at d) rest) (λ items rest.
    Ok (record { attribute = attribute; path = path; item = item; items = items }, rest))))))

abbrev pub as_variable : Saying → Option (List ℕ)
as_variable (variable_named name) = Some name
as_variable other = None

abbrev pub making_at : ℕ → Tokens → ReadOf ActionTree
making_at d ts =
    then_read (taken as_variable ts) (λ v rest. then_read (make_at d rest) (λ m rest. then_read (many (is_mark 94) (make_at d) rest) (λ ms rest.
    Ok (making (record { variable = v; make = m; makes = ms }), rest))))

abbrev pub writing_at : ℕ → Tokens → ReadOf ActionTree
writing_at d ts =
    then_read (token (is_bare (codes "write")) ts) (λ _ rest. then_read (many begins_term (term_at d) rest) (λ values rest. Ok (writing (terms_of values), rest)))

abbrev pub halting_at : Tokens → ReadOf ActionTree
halting_at ts = then_read (token (is_bare (codes "halt")) ts) (λ _ rest. Ok (halting, rest))

abbrev pub inside_at : ℕ → Tokens → ReadOf ActionTree
inside_at d ts =
    elim (begins (is_bare (codes "write")) ts) [
      | true ↦ writing_at d ts
      | false ↦ elim (begins (is_bare (codes "halt")) ts) [ true ↦ halting_at ts | false ↦ making_at d ts ]
    ]

-- an action; its own bracket is one of those that may be open
abbrev pub action_at : ℕ → Tokens → ReadOf ActionTree
action_at d ts = then_read (token (is_mark 40) ts) (λ _ rest. then_read (inside_at d rest) (λ a rest. then_read (token (is_mark 41) rest) (λ _ rest. Ok (a, rest))))

-- ---- the whole

-- how many brackets may be open at once, without the outer brace
abbrev pub most_open : ℕ
most_open = 64

abbrev pub as_name : Saying → Option (List ℕ × Bool)
as_name (word_of text bare) = Some (text, bare)
as_name other = None

abbrev pub as_documentation : Saying → Option (List ℕ)
as_documentation (documentation text) = Some text
as_documentation other = None

abbrev pub is_documentation : Saying → Bool
is_documentation (documentation text) = true
is_documentation other = false

abbrev pub production_at : Tokens → ReadOf Tree
production_at ts =
    then_read (token (is_bare (codes "sp")) ts) (λ _ rest. then_read (token (is_mark 123) rest) (λ _ rest. then_read (taken as_name rest) (λ name rest.
    then_read (optional is_documentation (taken as_documentation) rest) (λ doc rest. then_read (flags_at rest) (λ flags rest.
    then_read (part_at most_open rest) (λ part rest. then_read (many begins_part (part_at most_open) rest) (λ parts rest. then_read (token is_arrow rest) (λ _ rest.
    then_read (many (is_mark 40) (action_at 63) rest) (λ actions rest. then_read (token (is_mark 125) rest) (λ _ rest.
    Ok (record { name = name.0; bare = name.1; doc = doc; flags = flags; part = part; parts = parts_of parts; actions = actions }, rest)))))))))))

-- the tree that the tokens spell, all of them; or why there is none, and how many tokens are left
unfoldable pub tree_of : Tokens → Result Tree (Stop × ℕ)
tree_of ts = elim (then_read (production_at ts) at_end) [ Ok r ↦ Ok r.0 | Err e ↦ Err e ]
