-- The tree that tokens spell: fields.
use Rattle.std.specs.Prelude.{ℕ, zero, suc, Bool, true, false, ◌||◌, Ok, Err, length}
use Rattle.defs_text.specs.Lexing.{Saying, variable_named}
use Rattle.defs_read.specs.Grammar.{Alternatives, Tested, Simple, one_of, tested, Braced, FieldTree, braced, single}
use Rattle.defs_read.specs.Readers.{deep, then_read, begins, token, taken, many, optional}
use Rattle.defs_read.specs.ReadingTokens.{ReadOf, is_mark, is_open_set, is_close_set, as_constant, is_constant, as_single, as_relation, is_relation}
use Rattle.defs_read.specs.Spelling.{Tokens}

abbrev pub alternatives_at : Tokens → ReadOf Alternatives
alternatives_at ts =
    then_read (token is_open_set ts) (λ _ rest. then_read (taken as_constant rest) (λ c rest. then_read (many is_constant (taken as_constant) rest) (λ more rest.
    then_read (token is_close_set rest) (λ _ rest. Ok (record { first = c; others = more }, rest)))))

abbrev pub tested_at : Tokens → ReadOf Tested
tested_at ts = then_read (optional is_relation (taken as_relation) ts) (λ r rest. then_read (taken as_single rest) (λ s rest. Ok (record { relation = r; single = s }, rest)))

abbrev pub simple_at : Tokens → ReadOf Simple
simple_at ts =
    elim (begins is_open_set ts) [
      | true ↦ then_read (alternatives_at ts) (λ a rest. Ok (one_of a, rest))
      | false ↦ then_read (tested_at ts) (λ t rest. Ok (tested t, rest))
    ]

abbrev pub begins_simple : Saying → Bool
begins_simple t = is_constant t || (is_variable t || (is_open_set t || is_relation t))
  where
    is_variable : Saying → Bool
    is_variable (variable_named name) = true
    is_variable other = false

abbrev pub begins_field : Saying → Bool
begins_field t = begins_simple t || is_mark 123 t

abbrev pub braced_at : Tokens → ReadOf Braced
braced_at ts =
    then_read (token (is_mark 123) ts) (λ _ rest. then_read (simple_at rest) (λ s rest. then_read (many begins_simple simple_at rest) (λ more rest.
    then_read (token (is_mark 125) rest) (λ _ rest. Ok (record { first = s; others = more }, rest)))))

-- a bracket opens where so many more may be open
abbrev pub opened : {A : Type 0} → ℕ → (Tokens → ReadOf A) → Tokens → ReadOf A
opened zero read ts = Err (deep, length ts)
opened (suc d) read ts = read ts

abbrev pub field_at : ℕ → Tokens → ReadOf FieldTree
field_at d ts =
    elim (begins (is_mark 123) ts) [
      | true ↦ opened d (λ us. then_read (braced_at us) (λ b rest. Ok (braced b, rest))) ts
      | false ↦ then_read (simple_at ts) (λ s rest. Ok (single s, rest))
    ]
