-- What the readers of values, actions and productions do with brackets.
use Rattle.std.specs.Prelude.{codes}
use Rattle.std.proofs.Common.{◌≡◌, refl, ◌∙◌, ap, ℕ, zero, suc, Some}
use Rattle.defs_text.specs.Lexing.{Saying}
use Rattle.defs_read.specs.Grammar.{Term, WishTree, accepting, rejecting, requiring, prohibiting, comparing}
use Rattle.defs_read.specs.Readers.{Read, begins}
use Rattle.defs_read.specs.ReadingTokens.{is_mark, is_bare, as_single}
use Rattle.defs_read.specs.Reading.{as_flag, may_follow, with_flag, flags_at}
use Rattle.defs_read.specs.ReadingValues.{as_function, wants, one_further, call_at, single_at, term_at}
use Rattle.defs_read.specs.ReadingActions.{is_comparing, as_comparing, compared_at, as_mark_wish, wish_at, item_at, term_step_at, make_at, as_variable, making_at, writing_at, halting_at, inside_at, action_at, as_name, as_documentation}
use Rattle.defs_read.specs.Spelling.{Tokens, spelled_wish}
use Rattle.reading_laws.specs.Brackets.{room}
use Rattle.reading_laws.proofs.WishLaws.{IsMarkWish, mark_means}
use Rattle.reading_laws.proofs.FlagLaws.{none_seen}
use Rattle.reading_laws.proofs.ProductionLaws.{production_with}
use Rattle.reading_laws.proofs.KeepLaws.{Keeps, gives_keeps, then_keeps, choice_keeps, sink_keeps, token_keeps, Neutral, taken_keeps, several_keeps, many_keeps, optional_keeps}
use Rattle.reading_laws.proofs.KeptConditions.{opening_turns, closing_turns, mark_turns, bare_turns, arrow_turns, no_mark, opens_bracket, part_keeps}

-- ---- values

single_keeps : (d : ℕ) → Keeps d d single_at single_at
single_keeps d = then_keeps (taken_keeps (no_mark as_single (λ b. refl) d)) (λ s. gives_keeps)

call_keeps : (d : ℕ) {p q : Tokens → Read Saying Term} → Keeps d d p q → Keeps (suc d) (suc d) (call_at p) (call_at q)
call_keeps d x =
    then_keeps (token_keeps (opening_turns 40 d refl)) (λ _. then_keeps (taken_keeps (no_mark as_function (λ b. refl) d)) (λ f. then_keeps (several_keeps (wants f) one_further 0 x)
    (λ values. then_keeps (token_keeps (closing_turns 41 d refl)) (λ _. gives_keeps))))

term_keeps : (d : ℕ) → Keeps d d (term_at d) (term_at (suc d))
unfolding term_at
term_keeps zero = sink_keeps opens_bracket (single_keeps 0)
term_keeps (suc d) = go (term_keeps d)
  where
    go : Keeps d d (term_at d) (term_at (suc d)) → Keeps (suc d) (suc d) (term_at (suc d)) (term_at (suc (suc d)))
    go x = choice_keeps (begins (is_mark 40)) (call_keeps d x) (single_keeps (suc d))

-- ---- preferences and items

compared_keeps : (d : ℕ) → Keeps d d (compared_at d) (compared_at (suc d))
compared_keeps d = then_keeps (taken_keeps (no_mark as_comparing (λ b. refl) d)) (λ k. then_keeps (optional_keeps (term_keeps d)) (λ r. gives_keeps))

mark_wish_neutral : (d : ℕ) → Neutral as_mark_wish d
mark_wish_neutral d = record { one = λ t w e. let m = mark_means t w e in ap (room d) m.0 ∙ plain w m.1 }
  where
    plain : (w : WishTree) → IsMarkWish w → room d (spelled_wish w) ≡ Some d
    plain accepting h = refl
    plain rejecting h = refl
    plain requiring h = refl
    plain prohibiting h = refl
    plain (comparing c) h = absurd h

wish_keeps : (d : ℕ) → Keeps d d (wish_at d) (wish_at (suc d))
wish_keeps d = choice_keeps (begins is_comparing) (then_keeps (compared_keeps d) (λ c. gives_keeps)) (taken_keeps (mark_wish_neutral d))

item_keeps : (d : ℕ) → Keeps d d (item_at d) (item_at (suc d))
item_keeps d = then_keeps (term_keeps d) (λ v. then_keeps (many_keeps (wish_keeps d)) (λ ws. gives_keeps))

-- ---- actions

step_keeps : (d : ℕ) → Keeps d d (term_step_at d) (term_step_at (suc d))
step_keeps d = then_keeps (token_keeps (mark_turns 46 d refl)) (λ _. term_keeps d)

make_keeps : (d : ℕ) → Keeps d d (make_at d) (make_at (suc d))
make_keeps d =
    then_keeps (token_keeps (mark_turns 94 d refl)) (λ _. then_keeps (term_keeps d) (λ attribute. then_keeps (many_keeps (step_keeps d)) (λ path. then_keeps (item_keeps d)
    (λ item. then_keeps (many_keeps (item_keeps d)) (λ items. gives_keeps)))))

making_keeps : (d : ℕ) → Keeps d d (making_at d) (making_at (suc d))
making_keeps d = then_keeps (taken_keeps (no_mark as_variable (λ b. refl) d)) (λ v. then_keeps (make_keeps d) (λ m. then_keeps (many_keeps (make_keeps d)) (λ ms. gives_keeps)))

writing_keeps : (d : ℕ) → Keeps d d (writing_at d) (writing_at (suc d))
writing_keeps d = then_keeps (token_keeps (bare_turns (codes "write") d)) (λ _. then_keeps (many_keeps (term_keeps d)) (λ values. gives_keeps))

halting_keeps : (d : ℕ) → Keeps d d halting_at halting_at
halting_keeps d = then_keeps (token_keeps (bare_turns (codes "halt") d)) (λ _. gives_keeps)

inside_keeps : (d : ℕ) → Keeps d d (inside_at d) (inside_at (suc d))
inside_keeps d = choice_keeps (begins (is_bare (codes "write"))) (writing_keeps d) (choice_keeps (begins (is_bare (codes "halt"))) (halting_keeps d) (making_keeps d))

action_keeps : (d : ℕ) → Keeps (suc d) (suc d) (action_at d) (action_at (suc d))
action_keeps d = then_keeps (token_keeps (opening_turns 40 d refl)) (λ _. then_keeps (inside_keeps d) (λ a. then_keeps (token_keeps (closing_turns 41 d refl)) (λ _. gives_keeps)))

-- ---- productions

flags_keeps : (d : ℕ) → Keeps d d flags_at flags_at
flags_keeps d = several_keeps (λ s ts. begins (may_follow s) ts) with_flag none_seen (taken_keeps (no_mark as_flag (λ b. refl) d))

-- the outer brace is one more
pub production_keeps : (d : ℕ) → Keeps (suc (suc d)) (suc (suc d)) (production_with d) (production_with (suc d))
production_keeps d =
    then_keeps (token_keeps (bare_turns (codes "sp") (suc (suc d)))) (λ _. then_keeps (token_keeps (opening_turns 123 (suc d) refl)) (λ _. then_keeps (taken_keeps (no_mark as_name (λ b. refl) (suc d)))
    (λ name. then_keeps (optional_keeps (taken_keeps (no_mark as_documentation (λ b. refl) (suc d)))) (λ doc. then_keeps (flags_keeps (suc d)) (λ flags. then_keeps (part_keeps (suc d))
    (λ part. then_keeps (many_keeps (part_keeps (suc d))) (λ parts. then_keeps (token_keeps (arrow_turns (suc d))) (λ _. then_keeps (many_keeps (action_keeps d))
    (λ actions. then_keeps (token_keeps (closing_turns 125 (suc d) refl)) (λ _. gives_keeps))))))))))
