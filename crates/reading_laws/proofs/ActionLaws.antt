-- Actions are read exactly.
use Rattle.std.specs.Prelude.{◌↔◌, codes}
use Rattle.std.proofs.Common.{◌≡◌, refl, sym, ◌∙◌, ap, subst, true, false, [], ◌∷◌, ◌++◌, List, ℕ, suc, Option, Some, None, inl, inr, flat_map}
use Rattle.defs_text.specs.Lexing.{Saying, mark, variable_named}
use Rattle.defs_read.specs.Grammar.{a_variable, simple, Term, AttributeMake, MakeTree, ActionTree, making, writing, halting}
use Rattle.defs_read.specs.Readers.{begins, token, taken, many}
use Rattle.defs_read.specs.ReadingTokens.{is_mark, is_bare}
use Rattle.defs_read.specs.ReadingValues.{begins_term, terms_of, term_at}
use Rattle.defs_read.specs.ReadingActions.{as_variable, making_at, writing_at, halting_at, inside_at, action_at}
use Rattle.defs_read.specs.Spelling.{Tokens, bare_word, spelled_term, spelled_terms, spelled_make, spelled_action}
use Rattle.reading_laws.specs.Lawful.{AllOf, IsMake, IsAction}
use Rattle.reading_laws.specs.Brackets.{most, make_brackets, action_brackets}
use Rattle.reading_laws.proofs.ReaderLaws.{Exact, Always, said_exact, append_assoc}
use Rattle.reading_laws.proofs.ChoiceLaws.{Either, begins_looks, named_exact, choice_exact}
use Rattle.reading_laws.proofs.PieceLaws.{Spelled, Piece, Any, piece_exact, last_exact, piece_done, many_exact, named_part, Built, built_exact}
use Rattle.reading_laws.proofs.LimitLaws.{Within, fits_none, fits_both, fits_left, fits_right, outer, fits_outside, fits_inside, all_within}
use Rattle.reading_laws.proofs.TokenLaws.{mark_part, bare_part, bare_fits}
use Rattle.reading_laws.proofs.TermLaws.{term_exact}
use Rattle.reading_laws.proofs.CallLaws.{TermOk, term_begins, list_of, terms_again, list_again, spelled_list, terms_within}
use Rattle.reading_laws.proofs.MakeLaws.{MakeOk, make_exact, EndsMakes, makes_follow, makes_exact}

-- ---- making

variable_part : Exact (Spelled (λ name. variable_named name ∷ []) Any) (Spelled (λ name. variable_named name ∷ []) Any) Always (taken as_variable)
variable_part = named_part as_variable (λ name. variable_named name) (named_exact as_variable (λ name. variable_named name) (record { back = λ a. refl; only = only }) [])
  where
    only : (t : Saying) (a : List ℕ) → as_variable t ≡ Some a → t ≡ variable_named a
    only (variable_named name) a e = let f : a ≡ name = cc in ap (λ x. variable_named x) (sym f)
    only (mark b) a e = absurd (cc)
    only _ a e = absurd (cc)

abbrev IsMaking : ActionTree → Type 0
IsMaking (making m) = Unit {0}
IsMaking (writing ts) = ⊥
IsMaking halting = ⊥

-- the tree of an action that makes nothing, where one is asked for
abbrev no_make : MakeTree
no_make = record { variable = []; make = record { attribute = simple (a_variable []); path = []; item = record { value = simple (a_variable []); wishes = [] }; items = [] }; makes = [] }

abbrev make_of : ActionTree → MakeTree
make_of (making m) = m
make_of (writing ts) = no_make
make_of halting = no_make

abbrev MakingTail : ActionTree → Tokens
MakingTail a = variable_named (make_of a).variable ∷ (spelled_make (make_of a).make ++ flat_map spelled_make (make_of a).makes)

abbrev MakingOk : Option ℕ → ActionTree → Type 0
MakingOk m a = Unit {0} × (MakeOk m (make_of a).make × AllOf (MakeOk m) (make_of a).makes)

making_again : (a : ActionTree) (v : List ℕ) (m : AttributeMake) → IsMaking a → (make_of a).variable ≡ v → (make_of a).make ≡ m → making (record { variable = v; make = m; makes = (make_of a).makes }) ≡ a
making_again (making k) v m h e f = λ i. making (record { variable = sym e i; make = sym f i; makes = k.makes })
making_again (writing ts) v m h e f = absurd h
making_again halting v m h e f = absurd h

making_exact : (d : ℕ) → Exact (Piece IsMaking MakingTail (MakingOk (Some d))) (Piece IsMaking MakingTail (MakingOk None)) (λ a rest. EndsMakes rest) (making_at d)
making_exact d =
    piece_exact {Of = IsMaking} (λ a. (make_of a).variable) (λ name. variable_named name ∷ []) (λ a. spelled_make (make_of a).make ++ flat_map spelled_make (make_of a).makes) variable_part
    (λ v. piece_exact (λ a. (make_of a).make) spelled_make (λ a. flat_map spelled_make (make_of a).makes) (make_exact d)
    (λ m. last_exact (λ a. (make_of a).makes) (flat_map spelled_make) (λ ms. making (record { variable = v; make = m; makes = ms })) (makes_exact d) (λ ms. ((tt, refl), refl)) (λ ms. refl)
    (λ a k. making_again a v m k.0.0 k.0.1 k.1))
    (λ a rest l s. makes_follow (make_of a).makes rest s))
    (λ a rest l s. tt)

-- ---- writing, and halting

abbrev IsWriting : ActionTree → Type 0
IsWriting (making m) = ⊥
IsWriting (writing ts) = Unit {0}
IsWriting halting = ⊥

abbrev written_in : ActionTree → List Term
written_in (making m) = []
written_in (writing ts) = list_of ts
written_in halting = []

abbrev WritingTail : ActionTree → Tokens
WritingTail a = bare_word (codes "write") ∷ flat_map spelled_term (written_in a)

abbrev WritingOk : Option ℕ → ActionTree → Type 0
WritingOk m a = Unit {0} × AllOf (TermOk m) (written_in a)

writing_again : (a : ActionTree) → IsWriting a → writing (terms_of (written_in a)) ≡ a
writing_again (making m) h = absurd h
writing_again (writing ts) h = ap (λ k. writing k) (terms_again ts)
writing_again halting h = absurd h

terms_exact : (d : ℕ) → Exact (Spelled (flat_map spelled_term) (AllOf (TermOk (Some d)))) (Spelled (flat_map spelled_term) (AllOf (TermOk None))) (λ ts rest. begins begins_term rest ≡ false) (many begins_term (term_at d))
terms_exact d = many_exact (λ rest. begins begins_term rest ≡ false) begins_term spelled_term (TermOk (Some d)) (TermOk None) (term_at d) (term_exact d) (λ t rest l. term_begins t rest) (λ a xs rest l m e. tt) (λ rest e. e)

writing_exact : (d : ℕ) → Exact (Piece IsWriting WritingTail (WritingOk (Some d))) (Piece IsWriting WritingTail (WritingOk None)) (λ a rest. begins begins_term rest ≡ false) (writing_at d)
writing_exact d =
    piece_exact {Of = IsWriting} (λ (a : ActionTree). record {}) (λ _. bare_word (codes "write") ∷ []) (λ a. flat_map spelled_term (written_in a)) (bare_part (codes "write"))
    (λ _. last_exact written_in (flat_map spelled_term) (λ values. writing (terms_of values)) (terms_exact d) (λ vs. (tt, refl)) (λ vs. list_again vs) (λ a k. writing_again a k.0))
    (λ a rest l s. tt)

abbrev Halts : ActionTree → Tokens → Type 0
Halts = Built {A = record {}} (λ _. halting) (Spelled (λ _. bare_word (codes "halt") ∷ []) Any)

halting_exact : Exact Halts Halts Always halting_at
halting_exact = built_exact Always (λ _. halting) (token (is_bare (codes "halt"))) (bare_part (codes "halt")) (λ a rest s. tt)

-- ---- inside the brackets

abbrev spelled_inside : ActionTree → Tokens
spelled_inside (making m) = variable_named m.variable ∷ (spelled_make m.make ++ flat_map spelled_make m.makes)
spelled_inside (writing ts) = bare_word (codes "write") ∷ spelled_terms ts
spelled_inside halting = bare_word (codes "halt") ∷ []

abbrev InsideOk : Option ℕ → ActionTree → Type 0
InsideOk = Within IsAction action_brackets

abbrev Inside : Option ℕ → ActionTree → Tokens → Type 0
Inside m = Either (Piece IsWriting WritingTail (WritingOk m)) (Either Halts (Piece IsMaking MakingTail (MakingOk m)))

inside_there : (m : Option ℕ) (a : ActionTree) (u : Tokens) → Inside m a u → Spelled spelled_inside (InsideOk m) a u
inside_there m a u (inr (inl b)) = subst (λ x. Spelled spelled_inside (InsideOk m) x u) (sym b.same) (record { spelled = b.first.spelled; lawful = (tt, fits_none m) })
inside_there m (making k) u (inl z) = absurd z.known
inside_there m (writing ts) u (inl z) = record { spelled = z.spelled ∙ ap (λ l. bare_word (codes "write") ∷ l) (spelled_list ts); lawful = (terms_within m ts).0 z.lawful.1 }
inside_there m halting u (inl z) = absurd z.known
inside_there m (making k) u (inr (inr z)) = let l = (all_within IsMake make_brackets m k.makes).0 z.lawful.1.1 in
    record { spelled = z.spelled; lawful = ((z.lawful.1.0.0, l.0), fits_both m (make_brackets k.make) (most make_brackets k.makes) z.lawful.1.0.1 l.1) }
inside_there m (writing ts) u (inr (inr z)) = absurd z.known
inside_there m halting u (inr (inr z)) = absurd z.known

inside_back : (m : Option ℕ) (a : ActionTree) (u : Tokens) → Spelled spelled_inside (InsideOk m) a u → Inside m a u
inside_back m (making k) u z =
    let rest = fits_right m (make_brackets k.make) (most make_brackets k.makes) z.lawful.1 in
    inr (inr (record { known = tt; spelled = z.spelled; lawful = (tt, ((z.lawful.0.0, fits_left m (make_brackets k.make) (most make_brackets k.makes) z.lawful.1), (all_within IsMake make_brackets m k.makes).1 (z.lawful.0.1, rest))) }))
inside_back m (writing ts) u z = inl (record { known = tt; spelled = z.spelled ∙ ap (λ l. bare_word (codes "write") ∷ l) (sym (spelled_list ts)); lawful = (tt, (terms_within m ts).1 z.lawful) })
inside_back m halting u z = inr (inl (record { part = record {}; same = refl; first = record { spelled = z.spelled; lawful = tt } }))

abbrev EndsInside : ActionTree → Tokens → Type 0
EndsInside a rest = EndsMakes rest

inside_exact : (d : ℕ) → Exact (Spelled spelled_inside (InsideOk (Some d))) (Spelled spelled_inside (InsideOk None)) EndsInside (inside_at d)
inside_exact d =
    said_exact (inside_at d) (inside_there (Some d)) (inside_back (Some d)) (inside_there None) (λ a u z. record { spelled = z.spelled; lawful = (z.lawful.0, tt) }) (λ a rest s. s)
    (choice_exact {S = EndsInside} (begins (is_bare (codes "write"))) (writing_at d) (λ ts. elim (begins (is_bare (codes "halt")) ts) [ true ↦ halting_at ts | false ↦ making_at d ts ]) (begins_looks (is_bare (codes "write")))
    (record { first = λ a u rest z. ap (λ k. begins (is_bare (codes "write")) (k ++ rest)) z.spelled ∙ bare_fits (codes "write"); second = not_write })
    (said_exact (writing_at d) (λ a u z. z) (λ a u z. z) (λ a u z. z) (λ a u z. (writing_exact d).wide a u z) (λ a rest s. s.ends.no_value) (writing_exact d))
    (choice_exact {S = EndsInside} (begins (is_bare (codes "halt"))) halting_at (making_at d) (begins_looks (is_bare (codes "halt")))
    (record { first = λ a u rest b. ap (λ k. begins (is_bare (codes "halt")) (k ++ rest)) b.first.spelled ∙ bare_fits (codes "halt"); second = λ a u rest z s. ap (λ k. begins (is_bare (codes "halt")) (k ++ rest)) z.spelled })
    (said_exact halting_at (λ a u z. z) (λ a u z. z) (λ a u z. z) (λ a u z. z) (λ a rest s. tt) halting_exact) (making_exact d)))
  where
    not_write : (a : ActionTree) (u rest : Tokens) → Either Halts (Piece IsMaking MakingTail (MakingOk (Some d))) a u → EndsInside a rest → begins (is_bare (codes "write")) (u ++ rest) ≡ false
    not_write a u rest (inl b) s = ap (λ k. begins (is_bare (codes "write")) (k ++ rest)) b.first.spelled
    not_write a u rest (inr z) s = ap (λ k. begins (is_bare (codes "write")) (k ++ rest)) z.spelled

-- ---- an action

abbrev pub action_all : ActionTree → ℕ
action_all a = suc (action_brackets a)

abbrev pub ActionOk : Option ℕ → ActionTree → Type 0
ActionOk = Within IsAction action_all

action_spelled : (a : ActionTree) → mark 40 ∷ (spelled_inside a ++ (mark 41 ∷ [])) ≡ spelled_action a
action_spelled (making m) = ap (λ l. mark 40 ∷ (variable_named m.variable ∷ l)) (append_assoc (spelled_make m.make) (flat_map spelled_make m.makes) (mark 41 ∷ []))
action_spelled (writing ts) = refl
action_spelled halting = refl

whole_action : (m : Option ℕ) (a : ActionTree) → (Unit {0} × (InsideOk m a × Unit {0})) ↔ ActionOk (outer m) a
whole_action m a = (λ h. (h.1.0.0, fits_outside m (action_brackets a) h.1.0.1), λ h. (tt, ((h.0, fits_inside m (action_brackets a) h.1), tt)))

-- An action is read exactly, where so many brackets may open inside it.
pub action_exact : (d : ℕ) → Exact (Spelled spelled_action (ActionOk (Some (suc d)))) (Spelled spelled_action (ActionOk None)) Always (action_at d)
action_exact d =
    piece_done (λ a. mark 40 ∷ (spelled_inside a ++ (mark 41 ∷ []))) spelled_action action_spelled (whole_action (Some d)) (whole_action None)
    (piece_exact {Of = λ a. Unit {0}} (λ (a : ActionTree). record {}) (λ _. mark 40 ∷ []) (λ a. spelled_inside a ++ (mark 41 ∷ [])) (mark_part 40)
    (λ _. piece_exact (λ (a : ActionTree). a) spelled_inside (λ a. mark 41 ∷ []) (inside_exact d)
    (λ a. last_exact (λ (b : ActionTree). record {}) (λ _. mark 41 ∷ []) (λ _. a) (mark_part 41) (λ _. ((tt, refl), refl)) (λ _. refl) (λ b k. sym k.1))
    (λ a rest l s. record { ends = record { no_wish = refl; no_value = refl }; no_make = refl }))
    (λ a rest l s. tt))

pub actions_exact : (d : ℕ) → Exact (Spelled (flat_map spelled_action) (AllOf (ActionOk (Some (suc d))))) (Spelled (flat_map spelled_action) (AllOf (ActionOk None))) (λ xs rest. begins (is_mark 40) rest ≡ false) (many (is_mark 40) (action_at d))
actions_exact d = many_exact (λ rest. begins (is_mark 40) rest ≡ false) (is_mark 40) spelled_action (ActionOk (Some (suc d))) (ActionOk None) (action_at d) (action_exact d) (λ a rest l. action_begins a rest) (λ a xs rest l m e. tt) (λ rest e. e)
  where
    action_begins : (a : ActionTree) (rest : Tokens) → begins (is_mark 40) (spelled_action a ++ rest) ≡ true
    action_begins (making m) rest = refl
    action_begins (writing ts) rest = refl
    action_begins halting rest = refl
