-- What the readers of fields and conditions do with brackets.
use Rattle.std.specs.Prelude.{codes, ◌||◌}
use Rattle.std.proofs.Common.{◌≡◌, refl, sym, ◌∙◌, ap, true, false, [], ◌∷◌, List, ℕ, zero, suc, Bool, Option, Some, None, Ok, Err, length}
use Rattle.defs_text.specs.Lexing.{Saying, mark}
use Rattle.defs_read.specs.Grammar.{Part, joined}
use Rattle.defs_read.specs.Readers.{unexpected, deep, Read, then_read, begins, token, many}
use Rattle.defs_read.specs.ReadingTokens.{is_mark, is_sign, is_arrow, is_open_set, is_close_set, is_bare, as_constant, as_single, as_relation}
use Rattle.defs_read.specs.ReadingFields.{alternatives_at, tested_at, simple_at, braced_at, field_at}
use Rattle.defs_read.specs.Reading.{value_test_at, step_at, attribute_test_at, group_at, opens, begins_part, joined_at, grouped_at, part_at, parts_of}
use Rattle.defs_read.specs.Spelling.{Tokens}
use Rattle.reading_laws.specs.Brackets.{is_opening, room}
use Rattle.reading_laws.proofs.TokenLaws.{mark_only, sign_only, bare_only}
use Rattle.reading_laws.proofs.KeepLaws.{Kept, stopped, sunk, Keeps, gives_keeps, then_keeps, choice_keeps, sink_keeps, Turns, token_keeps, flag_keeps, Neutral, taken_keeps, many_keeps, optional_keeps}

-- ---- tokens

pub opening_turns : (b d : ℕ) → room (suc d) (mark b ∷ []) ≡ Some d → Turns (is_mark b) (suc d) d
opening_turns b d e = record { one = λ t f. ap (λ (c : Saying). room (suc d) (c ∷ [])) (mark_only b t f) ∙ e }

pub closing_turns : (b d : ℕ) → room d (mark b ∷ []) ≡ Some (suc d) → Turns (is_mark b) d (suc d)
closing_turns b d e = record { one = λ t f. ap (λ (c : Saying). room d (c ∷ [])) (mark_only b t f) ∙ e }

pub mark_turns : (b d : ℕ) → room d (mark b ∷ []) ≡ Some d → Turns (is_mark b) d d
mark_turns b d e = record { one = λ t f. ap (λ (c : Saying). room d (c ∷ [])) (mark_only b t f) ∙ e }

pub sign_turns : (k d : ℕ) → Turns (is_sign k) d d
sign_turns k d = record { one = λ t f. ap (λ (c : Saying). room d (c ∷ [])) (sign_only k t f) }

pub bare_turns : (text : List ℕ) (d : ℕ) → Turns (is_bare text) d d
bare_turns text d = record { one = λ t f. ap (λ (c : Saying). room d (c ∷ [])) (bare_only text t f) }

open_set_turns : (d : ℕ) → Turns is_open_set d d
open_set_turns d = record { one = one }
  where
    one : (t : Saying) → is_open_set t ≡ true → room d (t ∷ []) ≡ Some d
    one (mark b) e = absurd (cc)
    one _ e = refl

close_set_turns : (d : ℕ) → Turns is_close_set d d
close_set_turns d = record { one = one }
  where
    one : (t : Saying) → is_close_set t ≡ true → room d (t ∷ []) ≡ Some d
    one (mark b) e = absurd (cc)
    one _ e = refl

pub arrow_turns : (d : ℕ) → Turns is_arrow d d
arrow_turns d = record { one = one }
  where
    one : (t : Saying) → is_arrow t ≡ true → room d (t ∷ []) ≡ Some d
    one (mark b) e = absurd (cc)
    one _ e = refl

-- a mark stands for nothing
pub no_mark : {A : Type 0} (as_part : Saying → Option A) → ((b : ℕ) → as_part (mark b) ≡ None) → (d : ℕ) → Neutral as_part d
no_mark {A} as_part none d = record { one = one }
  where
    one : (t : Saying) (a : A) → as_part t ≡ Some a → room d (t ∷ []) ≡ Some d
    one (mark b) a e = let f : ◌≡◌ {A = Option A} None (Some a) = sym (none b) ∙ e in absurd (cc)
    one _ a e = refl

-- ---- fields

alternatives_keeps : (d : ℕ) → Keeps d d alternatives_at alternatives_at
alternatives_keeps d =
    then_keeps (token_keeps (open_set_turns d)) (λ _. then_keeps (taken_keeps (no_mark as_constant (λ b. refl) d)) (λ c. then_keeps (many_keeps (taken_keeps (no_mark as_constant (λ b. refl) d)))
    (λ more. then_keeps (token_keeps (close_set_turns d)) (λ _. gives_keeps))))

tested_keeps : (d : ℕ) → Keeps d d tested_at tested_at
tested_keeps d = then_keeps (optional_keeps (taken_keeps (no_mark as_relation (λ b. refl) d))) (λ r. then_keeps (taken_keeps (no_mark as_single (λ b. refl) d)) (λ s. gives_keeps))

simple_keeps : (d : ℕ) → Keeps d d simple_at simple_at
simple_keeps d = choice_keeps (begins is_open_set) (then_keeps (alternatives_keeps d) (λ a. gives_keeps)) (then_keeps (tested_keeps d) (λ t. gives_keeps))

braced_keeps : (d : ℕ) → Keeps (suc d) (suc d) braced_at braced_at
braced_keeps d =
    then_keeps (token_keeps (opening_turns 123 d refl)) (λ _. then_keeps (simple_keeps d) (λ s. then_keeps (many_keeps (simple_keeps d))
    (λ more. then_keeps (token_keeps (closing_turns 125 d refl)) (λ _. gives_keeps))))

opens_brace : (t : Saying) → is_mark 123 t ≡ true → is_opening t ≡ true
opens_brace t e = ap is_opening (mark_only 123 t e)

pub opens_bracket : (t : Saying) → is_mark 40 t ≡ true → is_opening t ≡ true
opens_bracket t e = ap is_opening (mark_only 40 t e)

field_keeps : (d : ℕ) → Keeps d d (field_at d) (field_at (suc d))
field_keeps zero = sink_keeps opens_brace (then_keeps (simple_keeps 0) (λ s. gives_keeps))
field_keeps (suc d) = choice_keeps (begins (is_mark 123)) (then_keeps (braced_keeps d) (λ b. gives_keeps)) (then_keeps (simple_keeps (suc d)) (λ s. gives_keeps))

-- ---- tests and groups

value_keeps : (d : ℕ) → Keeps d d (value_test_at d) (value_test_at (suc d))
value_keeps d = then_keeps (field_keeps d) (λ f. then_keeps (flag_keeps (sign_turns 7 d)) (λ accept. gives_keeps))

step_keeps : (d : ℕ) → Keeps d d (step_at d) (step_at (suc d))
step_keeps d = then_keeps (token_keeps (mark_turns 46 d refl)) (λ _. field_keeps d)

test_keeps : (d : ℕ) → Keeps d d (attribute_test_at d) (attribute_test_at (suc d))
test_keeps d =
    then_keeps (flag_keeps (sign_turns 8 d)) (λ negative. then_keeps (token_keeps (mark_turns 94 d refl)) (λ _. then_keeps (field_keeps d)
    (λ attribute. then_keeps (many_keeps (step_keeps d)) (λ path. then_keeps (many_keeps (value_keeps d)) (λ values. gives_keeps)))))

group_keeps : (d : ℕ) → Keeps (suc d) (suc d) (group_at d) (group_at (suc d))
group_keeps d =
    then_keeps (token_keeps (opening_turns 40 d refl)) (λ _. then_keeps (flag_keeps (bare_turns (codes "state") d)) (λ state. then_keeps (optional_keeps (field_keeps d))
    (λ field. then_keeps (many_keeps (test_keeps d)) (λ tests. then_keeps (token_keeps (closing_turns 41 d refl)) (λ _. gives_keeps)))))

-- ---- conditions

joined_keeps : (d : ℕ) (negative : Bool) {p q : Tokens → Read Saying Part} → Keeps d d p q → Keeps (suc d) (suc d) (joined_at p negative) (joined_at q negative)
joined_keeps d negative x =
    then_keeps (token_keeps (opening_turns 123 d refl)) (λ _. then_keeps x (λ p. then_keeps (many_keeps x) (λ ps. then_keeps (token_keeps (closing_turns 125 d refl)) (λ _. gives_keeps))))

-- no body is read where no bracket may open
body_zero : (negative : Bool) → Keeps 0 0 (λ rest. elim (begins opens rest) [ true ↦ Err (deep, length rest) | false ↦ Err (unexpected, length rest) ])
    (λ rest. elim (begins (is_mark 40) rest) [ true ↦ grouped_at 0 negative rest | false ↦ joined_at (part_at 0) negative rest ])
body_zero negative = record { each = each }
  where
    each : (ts : Tokens) → Kept 0 0 (elim (begins opens ts) as (λ _. Read Saying Part) [ true ↦ Err (deep, length ts) | false ↦ Err (unexpected, length ts) ])
        (elim (begins (is_mark 40) ts) as (λ _. Read Saying Part) [ true ↦ grouped_at 0 negative ts | false ↦ joined_at (part_at 0) negative ts ]) ts
    each [] = stopped 0 [] [] refl refl refl refl
    each (t ∷ ts) = go (is_mark 40 t) refl
      where
        brace : (c : Bool) → is_mark 123 t ≡ c → Kept 0 0 (elim c as (λ _. Read Saying Part) [ true ↦ Err (deep, length (t ∷ ts)) | false ↦ Err (unexpected, length (t ∷ ts)) ])
            (then_read (elim c as (λ _. Read Saying (record {})) [ true ↦ Ok (record {}, ts) | false ↦ Err (unexpected, length (t ∷ ts)) ])
            (λ _ rest. then_read (part_at 0 rest) (λ p rest. then_read (many begins_part (part_at 0) rest) (λ ps rest. then_read (token (is_mark 125) rest) (λ _ rest. Ok (joined negative p (parts_of ps), rest)))))) (t ∷ ts)
        brace true e = sunk [] t ts refl refl (opens_brace t e) refl
        brace false e = stopped 0 [] (t ∷ ts) refl refl refl refl

        go : (b : Bool) → is_mark 40 t ≡ b → Kept 0 0 (elim (b || is_mark 123 t) as (λ _. Read Saying Part) [ true ↦ Err (deep, length (t ∷ ts)) | false ↦ Err (unexpected, length (t ∷ ts)) ])
            (elim b as (λ _. Read Saying Part) [ true ↦ grouped_at 0 negative (t ∷ ts) | false ↦ joined_at (part_at 0) negative (t ∷ ts) ]) (t ∷ ts)
        go true e = sunk [] t ts refl refl (opens_bracket t e) refl
        go false e = brace (is_mark 123 t) refl

pub part_keeps : (d : ℕ) → Keeps d d (part_at d) (part_at (suc d))
unfolding part_at
part_keeps zero = then_keeps (flag_keeps (sign_turns 8 0)) (λ negative. body_zero negative)
part_keeps (suc d) = go (part_keeps d)
  where
    go : Keeps d d (part_at d) (part_at (suc d)) → Keeps (suc d) (suc d) (part_at (suc d)) (part_at (suc (suc d)))
    go x = then_keeps (flag_keeps (sign_turns 8 (suc d))) (λ negative. choice_keeps (begins (is_mark 40)) (then_keeps (group_keeps d) (λ g. gives_keeps)) (joined_keeps d negative x))
