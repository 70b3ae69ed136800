-- What each token in front stands for, back and forth.
use Rattle.std.proofs.Common.{◌≡◌, refl, sym, ◌∙◌, ap, subst, true, false, [], ◌∷◌, List, ℕ, Bool, Option, Some, None}
use Rattle.std.specs.Prelude.{nat_lt, pos, if◌then◌else◌}
use Rattle.std.proofs.Common.{arith}
use Rattle.std.proofs.lemmas.Bool.{lt-ltb, ltb-true}
use Rattle.std.proofs.lemmas.Bool.Decides.{nat_tests}
use Rattle.std.proofs.lemmas.Slice.Eq.{bytes_eq-Decides}
use Rattle.defs_text.specs.Lexing.{Saying, mark, arrow, open_set, close_set, sign, variable_named, integer, word_of}
use Rattle.defs_read.specs.Grammar.{Constant, named, number, Single, a_variable, a_constant}
use Rattle.defs_read.specs.Readers.{token, taken, flag}
use Rattle.defs_read.specs.ReadingTokens.{is_mark, is_sign, is_arrow, is_open_set, is_close_set, is_bare, as_constant, as_single, as_relation}
use Rattle.defs_read.specs.Spelling.{Tokens, spelled_flag, spelled_constant, spelled_single, bare_word}
use Rattle.reading_laws.specs.Lawful.{IsRelation}
use Rattle.reading_laws.proofs.ReaderLaws.{Exact, Always, said_exact}
use Rattle.reading_laws.proofs.ChoiceLaws.{Names, Stands, taken_exact, named_exact, one_exact}
use Rattle.reading_laws.proofs.PieceLaws.{Spelled, Any, named_part, fixed_part, NoFlag, flag_exact}

-- a reader of one token that is always the same
abbrev pub ReadsToken : Saying → (Saying → Bool) → Type 0
ReadsToken t is = Exact (Spelled {A = record {}} (λ _. t ∷ []) Any) (Spelled {A = record {}} (λ _. t ∷ []) Any) Always (token is)

abbrev pub ReadsFlag : Saying → (Saying → Bool) → Type 0
ReadsFlag t is = Exact (Spelled (spelled_flag t) Any) (Spelled (spelled_flag t) Any) (NoFlag is) (flag is)

-- ---- marks, signs and words that are always the same

pub mark_only : (b : ℕ) (c : Saying) → is_mark b c ≡ true → c ≡ mark b
mark_only b (mark c) e = ap (λ x. mark x) (grind (arith, nat_tests))
mark_only b (sign k) e = absurd (cc)
mark_only b _ e = absurd (cc)

mark_fits : (b : ℕ) → is_mark b (mark b) ≡ true
mark_fits b = grind (arith, nat_tests)

pub mark_part : (b : ℕ) → ReadsToken (mark b) (is_mark b)
mark_part b = fixed_part (is_mark b) (mark b) (one_exact (is_mark b) (mark b) (mark_fits b) (mark_only b))

pub sign_only : (k : ℕ) (c : Saying) → is_sign k c ≡ true → c ≡ sign k
sign_only k (sign j) e = ap (λ x. sign x) (grind (arith, nat_tests))
sign_only k (mark b) e = absurd (cc)
sign_only k _ e = absurd (cc)

sign_fits : (k : ℕ) → is_sign k (sign k) ≡ true
sign_fits k = grind (arith, nat_tests)

pub sign_flag : (k : ℕ) → ReadsFlag (sign k) (is_sign k)
sign_flag k = flag_exact (is_sign k) (sign k) (sign_fits k) (sign_only k)

pub bare_fits : (text : List ℕ) → is_bare text (bare_word text) ≡ true
bare_fits text = (bytes_eq-Decides text text).1 refl

pub bare_only : (text : List ℕ) (c : Saying) → is_bare text c ≡ true → c ≡ bare_word text
bare_only text (word_of other true) e = ap bare_word ((bytes_eq-Decides other text).0 e)
bare_only text (word_of other false) e = absurd (cc)
bare_only text (mark b) e = absurd (cc)
bare_only text _ e = absurd (cc)

pub bare_part : (text : List ℕ) → ReadsToken (bare_word text) (is_bare text)
bare_part text = fixed_part (is_bare text) (bare_word text) (one_exact (is_bare text) (bare_word text) (bare_fits text) (bare_only text))

pub open_set_part : ReadsToken open_set is_open_set
open_set_part = fixed_part is_open_set open_set (one_exact is_open_set open_set refl only)
  where
    only : (c : Saying) → is_open_set c ≡ true → c ≡ open_set
    only open_set e = refl
    only (mark b) e = absurd (cc)
    only _ e = absurd (cc)

pub close_set_part : ReadsToken close_set is_close_set
close_set_part = fixed_part is_close_set close_set (one_exact is_close_set close_set refl only)
  where
    only : (c : Saying) → is_close_set c ≡ true → c ≡ close_set
    only close_set e = refl
    only (mark b) e = absurd (cc)
    only _ e = absurd (cc)

pub arrow_part : ReadsToken arrow is_arrow
arrow_part = fixed_part is_arrow arrow (one_exact is_arrow arrow refl only)
  where
    only : (c : Saying) → is_arrow c ≡ true → c ≡ arrow
    only arrow e = refl
    only (mark b) e = absurd (cc)
    only _ e = absurd (cc)

-- ---- constants, and single tests

constant_names : Names as_constant spelled_constant
constant_names = record { back = back; only = only }
  where
    back : (c : Constant) → as_constant (spelled_constant c) ≡ Some c
    back (named text bare) = refl
    back (number z) = refl

    only : (t : Saying) (a : Constant) → as_constant t ≡ Some a → t ≡ spelled_constant a
    only (word_of text bare) a e = let f : a ≡ named text bare = cc in ap spelled_constant (sym f)
    only (integer z) a e = let f : a ≡ number z = cc in ap spelled_constant (sym f)
    only _ a e = absurd (cc)

pub constant_part : Exact (Spelled (λ c. spelled_constant c ∷ []) Any) (Spelled (λ c. spelled_constant c ∷ []) Any) Always (taken as_constant)
constant_part = named_part as_constant spelled_constant (named_exact as_constant spelled_constant constant_names (number (pos 0)))

single_names : Names as_single spelled_single
single_names = record { back = back; only = only }
  where
    back : (a : Single) → as_single (spelled_single a) ≡ Some a
    back (a_variable name) = refl
    back (a_constant (named text bare)) = refl
    back (a_constant (number z)) = refl

    only : (t : Saying) (a : Single) → as_single t ≡ Some a → t ≡ spelled_single a
    only (variable_named name) a e = let f : a ≡ a_variable name = cc in ap spelled_single (sym f)
    only (word_of text bare) a e = let f : a ≡ a_constant (named text bare) = cc in ap spelled_single (sym f)
    only (integer z) a e = let f : a ≡ a_constant (number z) = cc in ap spelled_single (sym f)
    only _ a e = absurd (cc)

pub single_part : Exact (Spelled (λ s. spelled_single s ∷ []) Any) (Spelled (λ s. spelled_single s ∷ []) Any) Always (taken as_single)
single_part = named_part as_single spelled_single (named_exact as_single spelled_single single_names (a_variable []))

-- ---- signs that pass a test

-- the sign k, where it passes
abbrev pub sign_where : (ℕ → Bool) → Saying → Option ℕ
sign_where test (sign k) = if test k then Some k else None
sign_where test other = None

pub sign_part : (test : ℕ → Bool) (ok : ℕ → Type 0) (read : Saying → Option ℕ) → ((t : Saying) → read t ≡ sign_where test t) → ((k : ℕ) → test k ≡ true → ok k) → ((k : ℕ) → ok k → test k ≡ true) → (first : ℕ) → ok first
    → Exact (Spelled (λ k. sign k ∷ []) ok) (Spelled (λ k. sign k ∷ []) ok) Always (taken read)
sign_part test ok read same holds passes first fits = said_exact (taken read) there back there (λ k u z. z) (λ k rest s. s) (taken_exact read (sign first) first (same (sign first) ∙ back_one (test first) first (passes first fits)))
  where
    chosen : (b : Bool) (j k : ℕ) → test j ≡ b → ◌≡◌ {A = Option ℕ} (if b then Some j else None) (Some k) → (j ≡ k) × ok k
    chosen true j k e h = let one : j ≡ k = cc in (one, holds k (subst (λ n. test n ≡ true) one e))
    chosen false j k e h = absurd (cc)

    back_one : (b : Bool) (k : ℕ) → b ≡ true → ◌≡◌ {A = Option ℕ} (if b then Some k else None) (Some k)
    back_one true k e = refl
    back_one false k e = absurd (cc)

    which : (t : Saying) (k : ℕ) → sign_where test t ≡ Some k → (t ≡ sign k) × ok k
    which (sign j) k e = let h = chosen (test j) j k refl e in (ap (λ n. sign n) h.0, h.1)
    which (mark b) k e = absurd (cc)
    which _ k e = absurd (cc)

    there : (k : ℕ) (u : Tokens) → Stands read k u → Spelled (λ k. sign k ∷ []) ok k u
    there k u s = let h = which s.one k (sym (same s.one) ∙ s.fits) in record { spelled = s.whole ∙ ap (λ t. t ∷ []) h.0; lawful = h.1 }

    back : (k : ℕ) (u : Tokens) → Spelled (λ k. sign k ∷ []) ok k u → Stands read k u
    back k u z = record { one = sign k; whole = z.spelled; fits = same (sign k) ∙ back_one (test k) k (passes k z.lawful) }

pub relation_part : Exact (Spelled (λ k. sign k ∷ []) IsRelation) (Spelled (λ k. sign k ∷ []) IsRelation) Always (taken as_relation)
relation_part = sign_part (λ k. nat_lt k 7) IsRelation as_relation same (λ k e. ltb-true k 7 e) (λ k h. lt-ltb k 7 h) 0 (omega arith)
  where
    same : (t : Saying) → as_relation t ≡ sign_where (λ k. nat_lt k 7) t
    same (sign k) = refl
    same (mark b) = refl
    same _ = refl
