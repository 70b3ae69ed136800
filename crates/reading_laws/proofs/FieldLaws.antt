-- Fields are read exactly.
use Rattle.std.proofs.Common.{◌≡◌, refl, sym, ◌∙◌, ap, subst, true, false, [], ◌∷◌, ◌++◌, List, ℕ, zero, suc, Bool, Option, Some, None, ◌⊎◌, inl, inr, arith, flat_map, Ok}
use Rattle.defs_text.specs.Lexing.{Saying, mark, open_set, close_set, sign, variable_named}
use Rattle.defs_read.specs.Grammar.{Constant, named, number, Single, a_variable, a_constant, Alternatives, Tested, Simple, one_of, tested, Braced, FieldTree, braced, single}
use Rattle.defs_read.specs.Readers.{then_read, begins, taken, many}
use Rattle.defs_read.specs.ReadingTokens.{is_mark, is_open_set, as_constant, is_constant, is_relation, as_relation}
use Rattle.defs_read.specs.ReadingFields.{alternatives_at, tested_at, simple_at, begins_simple, begins_field, braced_at, field_at}
use Rattle.defs_read.specs.Spelling.{Tokens, spelled_option, spelled_constant, spelled_single, spelled_simple, spelled_field}
use Rattle.std.specs.Prelude.{◌||◌}
use Rattle.std.proofs.lemmas.Bool.{lt-ltb}
use Rattle.reading_laws.specs.Lawful.{AllOf, IfThere, IsRelation, IsSimple, IsField}
use Rattle.reading_laws.specs.Brackets.{field_brackets}
use Rattle.reading_laws.proofs.ReaderLaws.{Viable, Exact, Always, said_exact}
use Rattle.reading_laws.proofs.ChoiceLaws.{Either, Begun, begins_looks, deep_exact}
use Rattle.reading_laws.proofs.PieceLaws.{Spelled, Any, piece_exact, last_exact, piece_done, all_any, many_exact, NoFront, optional_exact, sum_exact, Built, built_exact}
use Rattle.reading_laws.proofs.LimitLaws.{Within, fits_none}
use Rattle.reading_laws.proofs.TokenLaws.{mark_part, mark_only, open_set_part, close_set_part, constant_part, single_part, relation_part}

-- ---- a disjunction

constant_begins : (c : Constant) (rest : Tokens) → begins is_constant ((spelled_constant c ∷ []) ++ rest) ≡ true
constant_begins (named text bare) rest = refl
constant_begins (number z) rest = refl

constants_exact : Exact (Spelled (flat_map (λ c. spelled_constant c ∷ [])) (AllOf Any)) (Spelled (flat_map (λ c. spelled_constant c ∷ [])) (AllOf Any)) (λ xs rest. begins is_constant rest ≡ false) (many is_constant (taken as_constant))
constants_exact = many_exact (λ rest. begins is_constant rest ≡ false) is_constant (λ c. spelled_constant c ∷ []) Any Any (taken as_constant) constant_part (λ c rest l. constant_begins c rest) (λ a xs rest l m e. tt) (λ rest e. e)

abbrev SetTail : Alternatives → Tokens
SetTail a = flat_map (λ c. spelled_constant c ∷ []) a.others ++ (close_set ∷ [])

set_again : (a : Alternatives) (c : Constant) (more : List Constant) → a.first ≡ c → a.others ≡ more → ◌≡◌ {A = Alternatives} (record { first = c; others = more }) a
set_again a c more e f = λ k. record { first = sym e k; others = sym f k }

abbrev spelled_alternatives : Alternatives → Tokens
spelled_alternatives a = spelled_simple (one_of a)

alternatives_exact : Exact (Spelled spelled_alternatives Any) (Spelled spelled_alternatives Any) Always alternatives_at
alternatives_exact =
    piece_done (λ a. open_set ∷ (spelled_constant a.first ∷ SetTail a)) spelled_alternatives (λ a. refl) (λ a. (λ h. tt, λ h. (tt, (tt, (all_any a.others, tt))))) (λ a. (λ h. tt, λ h. (tt, (tt, (all_any a.others, tt)))))
    (piece_exact (λ a. record {}) (λ _. open_set ∷ []) (λ a. spelled_constant a.first ∷ SetTail a) open_set_part
    (λ _. piece_exact (λ a. a.first) (λ c. spelled_constant c ∷ []) SetTail constant_part
    (λ c. piece_exact (λ a. a.others) (flat_map (λ c. spelled_constant c ∷ [])) (λ a. close_set ∷ []) constants_exact
    (λ more. last_exact (λ (a : Alternatives). record {}) (λ _. close_set ∷ []) (λ _. record { first = c; others = more }) close_set_part (λ _. (((tt, refl), refl), refl)) (λ _. refl) (λ a k. set_again a c more k.0.1 k.1))
    (λ a rest l s. refl))
    (λ a rest l s. tt))
    (λ a rest l s. tt))

-- ---- a test with a relation or without

single_is_no_relation : (x : Single) (rest : Tokens) → begins is_relation ((spelled_single x ∷ []) ++ rest) ≡ false
single_is_no_relation (a_variable v) rest = refl
single_is_no_relation (a_constant (named w b)) rest = refl
single_is_no_relation (a_constant (number z)) rest = refl

-- after a part that may be there comes what does not begin as it
pub after_optional : {A : Type 0} (first : Saying → Bool) (o : Option A) (rest : Tokens) → begins first rest ≡ false → NoFront first Always o rest
after_optional first (Some a) rest e = tt
after_optional first None rest e = e

abbrev spelled_tested : Tested → Tokens
spelled_tested t = spelled_simple (tested t)

abbrev IsTested : Tested → Type 0
IsTested t = IfThere IsRelation t.relation

tested_exact : Exact (Spelled spelled_tested IsTested) (Spelled spelled_tested IsTested) Always tested_at
tested_exact =
    piece_done spelled_tested spelled_tested (λ t. refl) (λ t. (λ h. h.0, λ h. (h, tt))) (λ t. (λ h. h.0, λ h. (h, tt)))
    (piece_exact (λ (t : Tested). t.relation) (spelled_option (λ k. sign k ∷ [])) (λ t. spelled_single t.single ∷ [])
    (optional_exact is_relation (λ k. sign k ∷ []) IsRelation IsRelation (taken as_relation) relation_part (λ k rest l. lt-ltb k 7 l))
    (λ r. last_exact (λ (t : Tested). t.single) (λ x. spelled_single x ∷ []) (λ x. record { relation = r; single = x }) single_part (λ x. (tt, refl)) (λ x. refl)
    (λ t k. λ i. record { relation = sym k.1 i; single = t.single }))
    (λ t rest l s. after_optional is_relation t.relation ((spelled_single t.single ∷ []) ++ rest) (single_is_no_relation t.single rest)))

-- ---- a simple test

not_open_set : (t : Tested) (rest : Tokens) → begins is_open_set (spelled_tested t ++ rest) ≡ false
not_open_set t rest = go t.relation t.single
  where
    go : (r : Option ℕ) (x : Single) → begins is_open_set ((spelled_option (λ k. sign k ∷ []) r ++ (spelled_single x ∷ [])) ++ rest) ≡ false
    go (Some k) x = refl
    go None (a_variable v) = refl
    go None (a_constant (named w b)) = refl
    go None (a_constant (number z)) = refl

pub simple_exact : Exact (Spelled spelled_simple IsSimple) (Spelled spelled_simple IsSimple) Always simple_at
simple_exact =
    sum_exact Always (begins is_open_set) one_of tested spelled_alternatives spelled_tested spelled_simple Any Any IsTested IsTested IsSimple IsSimple alternatives_at tested_at
    (begins_looks is_open_set) (record { cases = cases }) (λ a. refl) (λ t. refl) (λ a. (λ h. h, λ h. h)) (λ t. (λ h. h, λ h. h)) (λ a h. h) (λ t h. h) (λ a rest. refl) (λ t rest s. not_open_set t rest) (λ a rest s. s) (λ t rest s. s)
    alternatives_exact tested_exact
  where
    cases : (c : Simple) → ((a : Alternatives) × (c ≡ one_of a)) ⊎ ((t : Tested) × (c ≡ tested t))
    cases (one_of a) = inl (a, refl)
    cases (tested t) = inr (t, refl)

simple_begins : (x : Simple) (rest : Tokens) → IsSimple x → begins begins_simple (spelled_simple x ++ rest) ≡ true
simple_begins (one_of a) rest h = refl
simple_begins (tested t) rest h = go t.relation t.single h
  where
    go : (r : Option ℕ) (x : Single) → IfThere IsRelation r → begins begins_simple ((spelled_option (λ k. sign k ∷ []) r ++ (spelled_single x ∷ [])) ++ rest) ≡ true
    go (Some k) x h = lt-ltb k 7 h
    go None (a_variable v) h = refl
    go None (a_constant (named w b)) h = refl
    go None (a_constant (number z)) h = refl

-- ---- tests in braces

abbrev spelled_braced : Braced → Tokens
spelled_braced b = spelled_field (braced b)

abbrev IsBraced : Braced → Type 0
IsBraced b = IsSimple b.first × AllOf IsSimple b.others

simples_exact : Exact (Spelled (flat_map spelled_simple) (AllOf IsSimple)) (Spelled (flat_map spelled_simple) (AllOf IsSimple)) (λ xs rest. begins begins_simple rest ≡ false) (many begins_simple simple_at)
simples_exact = many_exact (λ rest. begins begins_simple rest ≡ false) begins_simple spelled_simple IsSimple IsSimple simple_at simple_exact simple_begins (λ a xs rest l m e. tt) (λ rest e. e)

abbrev BracedTail : Braced → Tokens
BracedTail b = flat_map spelled_simple b.others ++ (mark 125 ∷ [])

braced_exact : Exact (Spelled spelled_braced IsBraced) (Spelled spelled_braced IsBraced) Always braced_at
braced_exact =
    piece_done (λ b. mark 123 ∷ (spelled_simple b.first ++ BracedTail b)) spelled_braced (λ b. refl) (λ b. (λ h. (h.1.0, h.1.1.0), λ h. (tt, (h.0, (h.1, tt))))) (λ b. (λ h. (h.1.0, h.1.1.0), λ h. (tt, (h.0, (h.1, tt)))))
    (piece_exact (λ b. record {}) (λ _. mark 123 ∷ []) (λ b. spelled_simple b.first ++ BracedTail b) (mark_part 123)
    (λ _. piece_exact (λ (b : Braced). b.first) spelled_simple BracedTail simple_exact
    (λ s. piece_exact (λ (b : Braced). b.others) (flat_map spelled_simple) (λ b. mark 125 ∷ []) simples_exact
    (λ more. last_exact (λ (b : Braced). record {}) (λ _. mark 125 ∷ []) (λ _. record { first = s; others = more }) (mark_part 125) (λ _. (((tt, refl), refl), refl)) (λ _. refl)
    (λ b k. λ i. record { first = sym k.0.1 i; others = sym k.1 i }))
    (λ b rest l s. refl))
    (λ b rest l s. tt))
    (λ b rest l s. tt))

-- ---- a field

abbrev pub FieldOk : Option ℕ → FieldTree → Type 0
FieldOk = Within IsField field_brackets

simple_no_brace : (x : Simple) (rest : Tokens) → begins (is_mark 123) (spelled_simple x ++ rest) ≡ false
simple_no_brace (one_of a) rest = refl
simple_no_brace (tested t) rest = go t.relation t.single
  where
    go : (r : Option ℕ) (x : Single) → begins (is_mark 123) ((spelled_option (λ k. sign k ∷ []) r ++ (spelled_single x ∷ [])) ++ rest) ≡ false
    go (Some k) x = refl
    go None (a_variable v) = refl
    go None (a_constant (named w b)) = refl
    go None (a_constant (number z)) = refl

pub field_begins : (f : FieldTree) (rest : Tokens) → IsField f → begins begins_field (spelled_field f ++ rest) ≡ true
field_begins (braced b) rest h = refl
field_begins (single s) rest h = also (spelled_simple s ++ rest) (simple_begins s rest h)
  where
    also : (ts : Tokens) → begins begins_simple ts ≡ true → begins begins_field ts ≡ true
    also [] e = absurd (cc)
    also (t ∷ ts) e = ap (λ b. b || is_mark 123 t) e

field_begun : Begun (is_mark 123) (Spelled spelled_field (FieldOk None))
field_begun = record {
  each = λ t e. subst (λ c. Viable (Spelled spelled_field (FieldOk None)) (c ∷ [])) (sym (mark_only 123 t e))
      (record { tree = braced (record { first = tested (record { relation = None; single = a_variable [] }); others = [] }); more = variable_named [] ∷ (mark 125 ∷ []); spells = record { spelled = refl; lawful = (((tt, tt)), tt) } });
}

-- A field is read exactly, where so many brackets may open.
pub field_exact : (d : ℕ) → Exact (Spelled spelled_field (FieldOk (Some d))) (Spelled spelled_field (FieldOk None)) Always (field_at d)
field_exact zero =
    said_exact (field_at zero) (there (Some 0)) back wide (λ f u z. record { spelled = z.spelled; lawful = (z.lawful.0, tt) }) (λ f rest s. s)
    (deep_exact (is_mark 123) (λ ts. then_read (simple_at ts) (λ s rest. Ok (single s, rest))) field_begun avoids (built_exact Always single simple_at simple_exact (λ s rest t. t)))
  where
    there : (m : Option ℕ) (f : FieldTree) (u : Tokens) → Built single (Spelled spelled_simple IsSimple) f u → Spelled spelled_field (FieldOk m) f u
    there m f u b = subst (λ g. Spelled spelled_field (FieldOk m) g u) (sym b.same) (record { spelled = b.first.spelled; lawful = (b.first.lawful, fits_none m) })

    back : (f : FieldTree) (u : Tokens) → Spelled spelled_field (FieldOk (Some 0)) f u → Built single (Spelled spelled_simple IsSimple) f u
    back (single s) u z = record { part = s; same = refl; first = record { spelled = z.spelled; lawful = z.lawful.0 } }
    back (braced b) u z = let h = z.lawful.1 in absurd (omega arith)

    wide : (f : FieldTree) (u : Tokens) → Either (Spelled spelled_field (FieldOk None)) (Built single (Spelled spelled_simple IsSimple)) f u → Spelled spelled_field (FieldOk None) f u
    wide f u (inl z) = z
    wide f u (inr b) = there None f u b

    avoids : (f : FieldTree) (u rest : Tokens) → Built single (Spelled spelled_simple IsSimple) f u → Always f rest → begins (is_mark 123) (u ++ rest) ≡ false
    avoids f u rest b s = ap (λ k. begins (is_mark 123) (k ++ rest)) b.first.spelled ∙ simple_no_brace b.part rest
field_exact (suc d) =
    sum_exact Always (begins (is_mark 123)) braced single spelled_braced spelled_simple spelled_field IsBraced IsBraced IsSimple IsSimple (FieldOk (Some (suc d))) (FieldOk None) braced_at simple_at
    (begins_looks (is_mark 123)) (record { cases = cases }) (λ b. refl) (λ s. refl) (λ b. (λ h. h.0, λ h. (h, omega arith))) (λ s. (λ h. h.0, λ h. (h, omega arith))) (λ b h. (h, tt)) (λ s h. (h, tt))
    (λ b rest. refl) (λ s rest t. simple_no_brace s rest) (λ b rest s. s) (λ s rest t. t)
    braced_exact simple_exact
  where
    cases : (f : FieldTree) → ((b : Braced) × (f ≡ braced b)) ⊎ ((s : Simple) × (f ≡ single s))
    cases (braced b) = inl (b, refl)
    cases (single s) = inr (s, refl)
