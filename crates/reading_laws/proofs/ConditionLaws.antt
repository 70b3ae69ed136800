-- Tests of attributes are read exactly.
use Rattle.std.specs.Prelude.{◌↔◌}
use Rattle.std.proofs.Common.{◌≡◌, refl, sym, ◌∙◌, ap, true, false, [], ◌∷◌, ◌++◌, List, ℕ, Bool, ◌==◌, Option, Some, None, Ok, arith, flat_map}
use Rattle.std.specs.Prelude.{max}
use Rattle.std.proofs.lemmas.Bool.Decides.{nat_tests}
use Rattle.defs_text.specs.Lexing.{Saying, mark, sign}
use Rattle.defs_read.specs.Grammar.{FieldTree, ValueTest, AttributeTest}
use Rattle.defs_read.specs.Readers.{then_read, begins, many}
use Rattle.defs_read.specs.ReadingTokens.{is_mark, is_sign}
use Rattle.defs_read.specs.ReadingFields.{begins_field, field_at}
use Rattle.defs_read.specs.Reading.{value_test_at, step_at, attribute_test_at, begins_test}
use Rattle.defs_read.specs.Spelling.{Tokens, spelled_flag, spelled_field, spelled_value, spelled_step, spelled_test}
use Rattle.reading_laws.specs.Lawful.{AllOf, IsField, IsValueTest, IsAttributeTest}
use Rattle.reading_laws.specs.Brackets.{most, field_brackets, value_test_brackets, test_brackets}
use Rattle.reading_laws.proofs.ReaderLaws.{Exact, Always, said_exact, append_assoc}
use Rattle.reading_laws.proofs.PieceLaws.{Spelled, piece_exact, last_exact, piece_done, many_exact, NoFlag}
use Rattle.reading_laws.proofs.LimitLaws.{Within, fits_both, fits_left, fits_right, all_within}
use Rattle.reading_laws.proofs.TokenLaws.{mark_part, sign_flag}
use Rattle.reading_laws.proofs.FieldLaws.{FieldOk, field_exact, field_begins}

-- ---- a value and its `+`

abbrev pub ValueOk : Option ℕ → ValueTest → Type 0
ValueOk = Within IsValueTest value_test_brackets

abbrev NoPlus : ValueTest → Tokens → Type 0
NoPlus v rest = NoFlag (is_sign 7) v.accept rest

value_exact : (d : ℕ) → Exact (Spelled spelled_value (ValueOk (Some d))) (Spelled spelled_value (ValueOk None)) NoPlus (value_test_at d)
value_exact d =
    piece_done spelled_value spelled_value (λ v. refl) (λ v. (λ h. h.0, λ h. (h, tt))) (λ v. (λ h. h.0, λ h. (h, tt)))
    (piece_exact (λ (v : ValueTest). v.value) spelled_field (λ v. spelled_flag (sign 7) v.accept) (field_exact d)
    (λ f. last_exact (λ (v : ValueTest). v.accept) (spelled_flag (sign 7)) (λ accept. record { value = f; accept = accept }) (sign_flag 7) (λ b. (tt, refl)) (λ b. refl)
    (λ v k. λ i. record { value = sym k.1 i; accept = v.accept }))
    (λ v rest l s. tt))

pub step_exact : (d : ℕ) → Exact (Spelled spelled_step (FieldOk (Some d))) (Spelled spelled_step (FieldOk None)) Always (step_at d)
step_exact d =
    piece_done spelled_step spelled_step (λ f. refl) (λ f. (λ h. h.1, λ h. (tt, h))) (λ f. (λ h. h.1, λ h. (tt, h)))
    (piece_exact (λ (f : FieldTree). record {}) (λ _. mark 46 ∷ []) spelled_field (mark_part 46)
    (λ _. said_exact (field_at d) (λ f u z. record { known = (tt, refl); spelled = z.spelled; lawful = z.lawful }) (λ f u z. record { spelled = z.spelled; lawful = z.lawful }) (λ f u z. record { known = (tt, refl); spelled = z.spelled; lawful = z.lawful })
    (λ f u z. record { known = z.known; spelled = z.spelled; lawful = (z.lawful.0, tt) }) (λ f rest s. s) (field_exact d))
    (λ f rest l s. tt))

-- ---- an attribute test

steps_exact : (d : ℕ) → Exact (Spelled (flat_map spelled_step) (AllOf (FieldOk (Some d)))) (Spelled (flat_map spelled_step) (AllOf (FieldOk None))) (λ xs rest. begins (is_mark 46) rest ≡ false) (many (is_mark 46) (step_at d))
steps_exact d = many_exact (λ rest. begins (is_mark 46) rest ≡ false) (is_mark 46) spelled_step (FieldOk (Some d)) (FieldOk None) (step_at d) (step_exact d) (λ f rest l. refl) (λ a xs rest l m e. tt) (λ rest e. e)

value_begins : (v : ValueTest) (rest : Tokens) → IsValueTest v → begins begins_field (spelled_value v ++ rest) ≡ true
value_begins v rest h = ap (begins begins_field) (append_assoc (spelled_field v.value) (spelled_flag (sign 7) v.accept) rest) ∙ field_begins v.value (spelled_flag (sign 7) v.accept ++ rest) h

-- what begins a field is no plus, since `+` is no relation
field_is_no_plus : (rest : Tokens) → begins begins_field rest ≡ true → begins (is_sign 7) rest ≡ false
field_is_no_plus [] e = refl
field_is_no_plus (sign k ∷ rest) e = grind (arith, nat_tests)
field_is_no_plus (mark b ∷ rest) e = refl
field_is_no_plus _ e = refl

pub no_flag_if : (is : Saying → Bool) (b : Bool) (rest : Tokens) → begins is rest ≡ false → NoFlag is b rest
no_flag_if is true rest e = tt
no_flag_if is false rest e = e

-- what ends the values: neither a value nor a plus
pub record NoValue (rest : Tokens) : Type 0 where
  pub no_value : begins begins_field rest ≡ false
  pub no_plus : begins (is_sign 7) rest ≡ false

values_exact : (d : ℕ) → Exact (Spelled (flat_map spelled_value) (AllOf (ValueOk (Some d)))) (Spelled (flat_map spelled_value) (AllOf (ValueOk None))) (λ vs rest. NoValue rest) (many begins_field (value_test_at d))
values_exact d = many_exact NoValue begins_field spelled_value (ValueOk (Some d)) (ValueOk None) (value_test_at d) (value_exact d) (λ v rest l. value_begins v rest l.0) follows (λ rest r. r.no_value)
  where
    follows : (v : ValueTest) (vs : List ValueTest) (rest : Tokens) → ValueOk (Some d) v → AllOf (ValueOk (Some d)) vs → NoValue rest → NoPlus v (flat_map spelled_value vs ++ rest)
    follows v [] rest l m r = no_flag_if (is_sign 7) v.accept rest r.no_plus
    follows v (w ∷ vs) rest l m r =
        no_flag_if (is_sign 7) v.accept ((spelled_value w ++ flat_map spelled_value vs) ++ rest) (field_is_no_plus ((spelled_value w ++ flat_map spelled_value vs) ++ rest)
        (ap (begins begins_field) (append_assoc (spelled_value w) (flat_map spelled_value vs) rest) ∙ value_begins w (flat_map spelled_value vs ++ rest) m.0.0))

-- what a value begins with is no dot
no_dot : (m : Option ℕ) (vs : List ValueTest) (rest : Tokens) → AllOf (ValueOk m) vs → begins (is_mark 46) rest ≡ false → begins (is_mark 46) (flat_map spelled_value vs ++ rest) ≡ false
no_dot m [] rest l e = e
no_dot m (v ∷ vs) rest l e =
    field_is_no_dot ((spelled_value v ++ flat_map spelled_value vs) ++ rest) (ap (begins begins_field) (append_assoc (spelled_value v) (flat_map spelled_value vs) rest) ∙ value_begins v (flat_map spelled_value vs ++ rest) l.0.0)
  where
    field_is_no_dot : (rest : Tokens) → begins begins_field rest ≡ true → begins (is_mark 46) rest ≡ false
    field_is_no_dot [] e = refl
    field_is_no_dot (mark b ∷ rest) e = grind (arith, nat_tests)
    field_is_no_dot (sign k ∷ rest) e = refl
    field_is_no_dot _ e = refl

-- what ends a test: a bracket, or the next test
pub record NoTest (rest : Tokens) : Type 0 where
  pub values : NoValue rest
  pub no_dot : begins (is_mark 46) rest ≡ false

abbrev pub TestOk : Option ℕ → AttributeTest → Type 0
TestOk = Within IsAttributeTest test_brackets

abbrev pub TestTail : AttributeTest → Tokens
TestTail t = flat_map spelled_step t.path ++ flat_map spelled_value t.values

whole_test : (m : Option ℕ) (t : AttributeTest) → (Unit {0} × (Unit {0} × (FieldOk m t.attribute × (AllOf (FieldOk m) t.path × AllOf (ValueOk m) t.values)))) ↔ TestOk m t
whole_test m t = (there, back)
  where
    there : Unit {0} × (Unit {0} × (FieldOk m t.attribute × (AllOf (FieldOk m) t.path × AllOf (ValueOk m) t.values))) → TestOk m t
    there h =
        let p = (all_within IsField field_brackets m t.path).0 h.1.1.1.0 in let v = (all_within IsValueTest value_test_brackets m t.values).0 h.1.1.1.1 in
        ((h.1.1.0.0, p.0, v.0), fits_both m (field_brackets t.attribute) (max (most field_brackets t.path) (most value_test_brackets t.values)) h.1.1.0.1 (fits_both m (most field_brackets t.path) (most value_test_brackets t.values) p.1 v.1))

    back : TestOk m t → Unit {0} × (Unit {0} × (FieldOk m t.attribute × (AllOf (FieldOk m) t.path × AllOf (ValueOk m) t.values)))
    back h =
        let more = fits_right m (field_brackets t.attribute) (max (most field_brackets t.path) (most value_test_brackets t.values)) h.1 in
        let path = fits_left m (most field_brackets t.path) (most value_test_brackets t.values) more in let values = fits_right m (most field_brackets t.path) (most value_test_brackets t.values) more in (
          tt,
          (
            tt,
            (
              (h.0.0, fits_left m (field_brackets t.attribute) (max (most field_brackets t.path) (most value_test_brackets t.values)) h.1),
              ((all_within IsField field_brackets m t.path).1 (h.0.1, path), (all_within IsValueTest value_test_brackets m t.values).1 (h.0.2, values)),
            ),
          ),
        )

test_again : (t : AttributeTest) (n : Bool) (a : FieldTree) (p : List FieldTree) → t.negative ≡ n → t.attribute ≡ a → t.path ≡ p → ◌≡◌ {A = AttributeTest} (record { negative = n; attribute = a; path = p; values = t.values }) t
test_again t n a p e f g = λ i. record { negative = sym e i; attribute = sym f i; path = sym g i; values = t.values }

pub test_exact : (d : ℕ) → Exact (Spelled spelled_test (TestOk (Some d))) (Spelled spelled_test (TestOk None)) (λ t rest. NoTest rest) (attribute_test_at d)
test_exact d =
    piece_done spelled_test spelled_test (λ t. refl) (whole_test (Some d)) (whole_test None)
    (piece_exact (λ (t : AttributeTest). t.negative) (spelled_flag (sign 8)) (λ t. mark 94 ∷ (spelled_field t.attribute ++ TestTail t)) (sign_flag 8)
    (λ negative. piece_exact (λ (t : AttributeTest). record {}) (λ _. mark 94 ∷ []) (λ t. spelled_field t.attribute ++ TestTail t) (mark_part 94)
    (λ _. piece_exact (λ (t : AttributeTest). t.attribute) spelled_field TestTail (field_exact d)
    (λ attribute. piece_exact (λ (t : AttributeTest). t.path) (flat_map spelled_step) (λ t. flat_map spelled_value t.values) (steps_exact d)
    (λ path. said_exact (λ ts. then_read (many begins_field (value_test_at d) ts) (λ values rest. Ok (record { negative = negative; attribute = attribute; path = path; values = values }, rest)))
    (λ c u z. z) (λ c u z. z) (λ c u z. z) (λ c u z. record { known = z.known; spelled = z.spelled; lawful = ((values_exact d).wide c.values u (record { spelled = z.spelled; lawful = z.lawful })).lawful }) (λ c rest n. n.values)
    (last_exact (λ (t : AttributeTest). t.values) (flat_map spelled_value) (λ values. record { negative = negative; attribute = attribute; path = path; values = values }) (values_exact d)
    (λ values. (((((tt, refl), refl), refl), refl))) (λ values. refl) (λ t k. test_again t negative attribute path k.0.0.0.1 k.0.1 k.1)))
    (λ t rest l n. no_dot (Some d) t.values rest l n.no_dot))
    (λ t rest l n. tt))
    (λ t rest l n. tt))
    (λ t rest l n. no_flag_if (is_sign 8) t.negative (mark 94 ∷ ((spelled_field t.attribute ++ TestTail t) ++ rest)) refl))

pub test_begins : (t : AttributeTest) (rest : Tokens) → begins begins_test (spelled_test t ++ rest) ≡ true
test_begins t rest = go t.negative
  where
    go : (b : Bool) → begins begins_test ((spelled_flag (sign 8) b ++ (mark 94 ∷ (spelled_field t.attribute ++ TestTail t))) ++ rest) ≡ true
    go true = refl
    go false = refl

-- what begins a test ends the test before it
pub ends_test : (rest : Tokens) → begins begins_test rest ≡ true → NoTest rest
ends_test [] e = absurd (cc)
ends_test (mark b ∷ rest) e = let same : b ≡ 94 = grind (arith, nat_tests) in
    record { values = record { no_value = ap (λ n. n == 123) same; no_plus = refl }; no_dot = ap (λ n. n == 46) same }
ends_test (sign k ∷ rest) e = let same : k ≡ 8 = grind (arith, nat_tests) in
    record { values = record { no_value = ap (λ n. begins begins_field (sign n ∷ rest)) same; no_plus = ap (λ n. n == 7) same }; no_dot = refl }
ends_test _ e = absurd (cc)

-- what ends a group's tests: no test, and nothing that goes on with one
pub record NoMore (rest : Tokens) : Type 0 where
  pub ends : NoTest rest
  pub no_test : begins begins_test rest ≡ false

pub tests_exact : (d : ℕ) → Exact (Spelled (flat_map spelled_test) (AllOf (TestOk (Some d)))) (Spelled (flat_map spelled_test) (AllOf (TestOk None))) (λ ts rest. NoMore rest) (many begins_test (attribute_test_at d))
tests_exact d = many_exact NoMore begins_test spelled_test (TestOk (Some d)) (TestOk None) (attribute_test_at d) (test_exact d) (λ t rest l. test_begins t rest) follows (λ rest r. r.no_test)
  where
    follows : (t : AttributeTest) (ts : List AttributeTest) (rest : Tokens) → TestOk (Some d) t → AllOf (TestOk (Some d)) ts → NoMore rest → NoTest (flat_map spelled_test ts ++ rest)
    follows t [] rest l m r = r.ends
    follows t (x ∷ xs) rest l m r = ends_test ((spelled_test x ++ flat_map spelled_test xs) ++ rest) (ap (begins begins_test) (append_assoc (spelled_test x) (flat_map spelled_test xs) rest) ∙ test_begins x (flat_map spelled_test xs ++ rest))
