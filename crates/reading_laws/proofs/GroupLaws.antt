-- Groups are read exactly.
use Rattle.std.specs.Prelude.{◌↔◌, codes}
use Rattle.std.proofs.Common.{◌≡◌, refl, sym, ◌∙◌, ap, subst, true, false, [], ◌∷◌, ◌++◌, List, ℕ, Bool, Option, Some, None, inl, inr, Ok, length, ◌<◌, arith, flat_map}
use Rattle.std.specs.Str.{bytes_eq}
use Rattle.std.proofs.lemmas.Slice.Eq.{bytes_eq-Decides}
use Rattle.defs_text.specs.Lexing.{Saying, mark, sign}
use Rattle.defs_read.specs.Grammar.{named, number, Single, a_variable, a_constant, one_of, tested, FieldTree, braced, single, AttributeTest, Group}
use Rattle.defs_read.specs.Readers.{then_read, begins, token, many, flag, optional}
use Rattle.defs_read.specs.ReadingTokens.{ReadOf, is_mark, is_bare}
use Rattle.defs_read.specs.ReadingFields.{begins_field, field_at}
use Rattle.defs_read.specs.Reading.{attribute_test_at, begins_test, group_at}
use Rattle.defs_read.specs.Spelling.{Tokens, spelled_flag, spelled_option, spelled_field, spelled_test, spelled_group, bare_word}
use Rattle.reading_laws.specs.Lawful.{AllOf, IfThere, IsField, IsAttributeTest, state_word, IsMarkPlain, IsGroup}
use Rattle.reading_laws.specs.Brackets.{most, if_there, field_brackets, test_brackets, group_brackets}
use Rattle.reading_laws.proofs.ReaderLaws.{Exact, Always, said_exact}
use Rattle.reading_laws.proofs.PieceLaws.{Spelled, Piece, piece_exact, last_exact, piece_done, optional_exact}
use Rattle.reading_laws.proofs.MarkLaws.{Marked, marked_exact}
use Rattle.reading_laws.proofs.LimitLaws.{Within, fits_both, fits_left, fits_right, all_within, there_within}
use Rattle.reading_laws.proofs.TokenLaws.{mark_part, bare_fits, bare_only}
use Rattle.reading_laws.proofs.FieldLaws.{FieldOk, field_exact, field_begins, after_optional}
use Rattle.reading_laws.proofs.ConditionLaws.{TestOk, TestTail, tests_exact}

abbrev is_state : Saying → Bool
is_state = is_bare (codes "state")

-- the tokens behind the mark
abbrev BodyTail : Group → Tokens
BodyTail g = spelled_option spelled_field g.field ++ (flat_map spelled_test g.tests ++ (mark 41 ∷ []))

abbrev BodyOk : Option ℕ → Group → Type 0
BodyOk m g = IfThere (FieldOk m) g.field × (AllOf (TestOk m) g.tests × Unit {0})

-- ---- behind the mark

no_field : (g : Group) (rest : Tokens) → begins begins_field ((flat_map spelled_test g.tests ++ (mark 41 ∷ [])) ++ rest) ≡ false
no_field g rest = go g.tests
  where
    go : (ts : List AttributeTest) → begins begins_field ((flat_map spelled_test ts ++ (mark 41 ∷ [])) ++ rest) ≡ false
    go [] = refl
    go (t ∷ ts) = with_sign t.negative
      where
        with_sign : (b : Bool) → begins begins_field ((((spelled_flag (sign 8) b ++ (mark 94 ∷ (spelled_field t.attribute ++ TestTail t))) ++ flat_map spelled_test ts) ++ (mark 41 ∷ [])) ++ rest) ≡ false
        with_sign true = refl
        with_sign false = refl

abbrev body_at : ℕ → Bool → Tokens → ReadOf Group
body_at d state ts =
    then_read (optional begins_field (field_at d) ts) (λ field rest. then_read (many begins_test (attribute_test_at d) rest) (λ tests rest.
    then_read (token (is_mark 41) rest) (λ _ rest. Ok (record { state = state; field = field; tests = tests }, rest))))

abbrev KnownState : Bool → Group → Type 0
KnownState state g = g.state ≡ state

body_exact : (d : ℕ) (state : Bool) → Exact (Piece (KnownState state) BodyTail (BodyOk (Some d))) (Piece (KnownState state) BodyTail (BodyOk None)) Always (body_at d state)
body_exact d state =
    piece_exact (λ (g : Group). g.field) (spelled_option spelled_field) (λ g. flat_map spelled_test g.tests ++ (mark 41 ∷ []))
    (optional_exact begins_field spelled_field (FieldOk (Some d)) (FieldOk None) (field_at d) (field_exact d) (λ f rest l. field_begins f rest l.0))
    (λ field. piece_exact (λ (g : Group). g.tests) (flat_map spelled_test) (λ g. mark 41 ∷ []) (tests_exact d)
    (λ tests. last_exact (λ (g : Group). record {}) (λ _. mark 41 ∷ []) (λ _. record { state = state; field = field; tests = tests }) (mark_part 41) (λ _. ((refl, refl), refl)) (λ _. refl)
    (λ g k. λ i. record { state = sym k.0.0 i; field = sym k.0.1 i; tests = sym k.1 i }))
    (λ g rest l s. record { ends = record { values = record { no_value = refl; no_plus = refl }; no_dot = refl }; no_test = refl }))
    (λ g rest l s. after_optional begins_field g.field ((flat_map spelled_test g.tests ++ (mark 41 ∷ [])) ++ rest) (no_field g rest))

-- ---- the mark

-- a field other than the word `state` does not begin with it
plain_field : (o : Option FieldTree) (ts : List AttributeTest) → (o ≡ Some state_word → ⊥) → begins is_state (spelled_option spelled_field o ++ (flat_map spelled_test ts ++ (mark 41 ∷ []))) ≡ false
plain_field None [] h = refl
plain_field None (t ∷ ts) h = with_sign t.negative
  where
    with_sign : (b : Bool) → begins is_state (((spelled_flag (sign 8) b ++ (mark 94 ∷ (spelled_field t.attribute ++ TestTail t))) ++ flat_map spelled_test ts) ++ (mark 41 ∷ [])) ≡ false
    with_sign true = refl
    with_sign false = refl
plain_field (Some (braced b)) ts h = refl
plain_field (Some (single (one_of a))) ts h = refl
plain_field (Some (single (tested t))) ts h = go t.relation t.single h
  where
    go : (r : Option ℕ) (x : Single) → (◌≡◌ {A = Option FieldTree} (Some (single (tested (record { relation = r; single = x })))) (Some state_word) → ⊥)
        → begins is_state (spelled_field (single (tested (record { relation = r; single = x }))) ++ (flat_map spelled_test ts ++ (mark 41 ∷ []))) ≡ false
    go (Some k) x h = refl
    go None (a_variable v) h = refl
    go None (a_constant (number z)) h = refl
    go None (a_constant (named w false)) h = refl
    go None (a_constant (named w true)) h = same (bytes_eq w (codes "state")) refl
      where
        same : (b : Bool) → bytes_eq w (codes "state") ≡ b → b ≡ false
        same false e = refl
        same true e = absurd (h (ap (λ (x : List ℕ). let f : Option FieldTree = Some (single (tested (record { relation = None; single = a_constant (named x true) }))) in f) ((bytes_eq-Decides w (codes "state")).0 e)))

state_begins : begins is_state (spelled_field state_word ++ []) ≡ true
state_begins = bare_fits (codes "state")

-- what is behind the mark, with the mark
abbrev AnyGroup : Group → Type 0
AnyGroup g = Unit {0}

abbrev MarkedTail : Group → Tokens
MarkedTail g = spelled_flag (bare_word (codes "state")) g.state ++ BodyTail g

abbrev MarkedOk : Option ℕ → Group → Type 0
MarkedOk m g = IsMarkPlain g × BodyOk m g

marked_there : (m : Option ℕ) (g : Group) (u : Tokens) → Marked is_state (bare_word (codes "state")) (λ b. Piece (KnownState b) BodyTail (BodyOk m)) g u → Piece AnyGroup MarkedTail (MarkedOk m) g u
marked_there m g u (inl j) = record {
  known = tt;
  spelled = j.whole ∙ ap (λ k. k ++ j.rest) j.first ∙ ap (λ k. bare_word (codes "state") ∷ k) j.second.spelled ∙ ap (λ b. spelled_flag (bare_word (codes "state")) b ++ BodyTail g) (sym j.second.known);
  lawful = (λ e. absurd (differ (sym j.second.known ∙ e)), j.second.lawful);
}
  where
    differ : true ≡ false → ⊥
    differ e = cc
marked_there m g u (inr z) = record {
  known = tt;
  spelled = z.spelled.spelled ∙ ap (λ b. spelled_flag (bare_word (codes "state")) b ++ BodyTail g) (sym z.spelled.known);
  lawful = (λ e f. differ (sym (begun f) ∙ z.differs), z.spelled.lawful);
}
  where
    differ : true ≡ false → ⊥
    differ e = cc

    begun : g.field ≡ Some state_word → begins is_state u ≡ true
    begun f = ap (begins is_state) (z.spelled.spelled ∙ ap (λ o. spelled_option spelled_field o ++ (flat_map spelled_test g.tests ++ (mark 41 ∷ []))) f) ∙ state_begins

marked_back : (m : Option ℕ) (g : Group) (u : Tokens) → Piece AnyGroup MarkedTail (MarkedOk m) g u → Marked is_state (bare_word (codes "state")) (λ b. Piece (KnownState b) BodyTail (BodyOk m)) g u
marked_back m g u z = go g.state refl
  where
    go : (b : Bool) → g.state ≡ b → Marked is_state (bare_word (codes "state")) (λ b. Piece (KnownState b) BodyTail (BodyOk m)) g u
    go true e = inl (record {
      part = record {};
      front = bare_word (codes "state") ∷ [];
      rest = BodyTail g;
      whole = z.spelled ∙ ap (λ b. spelled_flag (bare_word (codes "state")) b ++ BodyTail g) e;
      first = refl;
      second = record { known = e; spelled = refl; lawful = z.lawful.1 };
    })
    go false e =
        let same : u ≡ BodyTail g = z.spelled ∙ ap (λ b. spelled_flag (bare_word (codes "state")) b ++ BodyTail g) e in
        inr (record { differs = ap (begins is_state) same ∙ plain_field g.field g.tests (z.lawful.0 e); spelled = record { known = e; spelled = same; lawful = z.lawful.1 } })

some_tokens : (xs ys : Tokens) (t : Saying) → 0 < length (xs ++ (ys ++ (t ∷ [])))
some_tokens [] [] t = omega arith
some_tokens [] (y ∷ ys) t = omega arith
some_tokens (x ∷ xs) ys t = omega arith

abbrev empty_group : Group
empty_group = record { state = false; field = None; tests = [] }

marked_group : (d : ℕ) → Exact (Piece AnyGroup MarkedTail (MarkedOk (Some d))) (Piece AnyGroup MarkedTail (MarkedOk None)) Always (λ ts. then_read (flag is_state ts) (body_at d))
marked_group d =
    said_exact (λ ts. then_read (flag is_state ts) (body_at d)) (marked_there (Some d)) (marked_back (Some d)) (marked_there None) wider (λ g rest s. s)
    (marked_exact is_state (bare_word (codes "state")) (body_at d) (bare_fits (codes "state")) (bare_only (codes "state")) (body_exact d)
    (λ g u z. subst (λ k. 0 < length k) (sym z.spelled) (some_tokens (spelled_option spelled_field g.field) (flat_map spelled_test g.tests) (mark 41)))
    empty_group (mark 41 ∷ []) (record { differs = refl; spelled = record { known = refl; spelled = refl; lawful = (tt, (tt, tt)) } }))
  where
    wider : (g : Group) (u : Tokens) → Piece AnyGroup MarkedTail (MarkedOk (Some d)) g u → Piece AnyGroup MarkedTail (MarkedOk None) g u
    wider g u z = record { known = tt; spelled = z.spelled; lawful = (z.lawful.0, ((body_exact d g.state).wide g (BodyTail g) (record { known = refl; spelled = refl; lawful = z.lawful.1 })).lawful) }

-- ---- a group

abbrev pub GroupOk : Option ℕ → Group → Type 0
GroupOk = Within IsGroup group_brackets

whole_group : (m : Option ℕ) (g : Group) → (Unit {0} × (IsMarkPlain g × (IfThere (FieldOk m) g.field × (AllOf (TestOk m) g.tests × Unit {0})))) ↔ GroupOk m g
whole_group m g = (there, back)
  where
    there : Unit {0} × (IsMarkPlain g × (IfThere (FieldOk m) g.field × (AllOf (TestOk m) g.tests × Unit {0}))) → GroupOk m g
    there h =
        let f = (there_within IsField field_brackets m g.field).0 h.1.1.0 in let t = (all_within IsAttributeTest test_brackets m g.tests).0 h.1.1.1.0 in
        ((h.1.0, f.0, t.0), fits_both m (if_there field_brackets g.field) (most test_brackets g.tests) f.1 t.1)

    back : GroupOk m g → Unit {0} × (IsMarkPlain g × (IfThere (FieldOk m) g.field × (AllOf (TestOk m) g.tests × Unit {0})))
    back h =
        let f = fits_left m (if_there field_brackets g.field) (most test_brackets g.tests) h.1 in let t = fits_right m (if_there field_brackets g.field) (most test_brackets g.tests) h.1 in
        (tt, (h.0.0, ((there_within IsField field_brackets m g.field).1 (h.0.1, f), ((all_within IsAttributeTest test_brackets m g.tests).1 (h.0.2, t), tt))))

pub group_exact : (d : ℕ) → Exact (Spelled spelled_group (GroupOk (Some d))) (Spelled spelled_group (GroupOk None)) Always (group_at d)
group_exact d =
    piece_done spelled_group spelled_group (λ g. refl) (whole_group (Some d)) (whole_group None)
    (piece_exact {Of = AnyGroup} {ok = MarkedOk (Some d)} {wide = MarkedOk None} (λ (g : Group). record {}) (λ _. mark 40 ∷ []) MarkedTail (mark_part 40)
    (λ _. said_exact (λ ts. then_read (flag is_state ts) (body_at d)) (λ g u z. record { known = (tt, refl); spelled = z.spelled; lawful = z.lawful }) (λ g u z. record { known = tt; spelled = z.spelled; lawful = z.lawful })
    (λ g u z. record { known = (tt, refl); spelled = z.spelled; lawful = z.lawful })
    (λ g u z. let w = (marked_group d).wide g u (record { known = tt; spelled = z.spelled; lawful = z.lawful }) in record { known = z.known; spelled = w.spelled; lawful = w.lawful }) (λ g rest s. s) (marked_group d))
    (λ g rest l s. tt))
