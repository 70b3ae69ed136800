-- Calls are read exactly, where values are.
use Rattle.std.specs.Prelude.{◌↔◌, nat_lt, ◌&&◌, ◌||◌}
use Rattle.std.proofs.Common.{◌≡◌, refl, sym, ◌∙◌, ap, subst, true, false, [], ◌∷◌, ◌++◌, List, ℕ, zero, suc, Bool, Option, Some, None, ◌⊎◌, inl, inr, Ok, length, ◌≤◌, ◌<◌, ◌+◌, arith, flat_map}
use Rattle.std.proofs.lemmas.Bool.{lt-ltb, ltb-true}
use Rattle.std.proofs.lemmas.Bool.Decides.{nat_tests}
use Rattle.soar_rule.specs.declared.action.Func.{Func}
use Rattle.soar_rule.specs.declared.action.Func.TheVariants as func
use Rattle.defs_text.specs.Lexing.{mark, variable_named}
use Rattle.defs_read.specs.Grammar.{named, number, a_variable, a_constant, Term, simple, called, Terms, no_terms, term_and}
use Rattle.defs_read.specs.Readers.{then_read, begins, token, several}
use Rattle.defs_read.specs.ReadingTokens.{is_mark}
use Rattle.defs_read.specs.ReadingValues.{arity_of, begins_term, allows, wants, terms_of, one_further, call_at, term_at}
use Rattle.defs_read.specs.Spelling.{Tokens, spelled_function, spelled_term, spelled_terms}
use Rattle.reading_laws.specs.Lawful.{AllOf, Takes, count_of, IsTerm, AreTerms}
use Rattle.reading_laws.specs.Brackets.{term_brackets, terms_brackets}
use Rattle.reading_laws.proofs.ReaderLaws.{Exact, Always, said_exact, said_outcome}
use Rattle.reading_laws.proofs.SeveralLaws.{Listed, last, Several, several_exact, exact_shortens}
use Rattle.reading_laws.proofs.PieceLaws.{Spelled, Piece, piece_exact, piece_exact_known, last_exact}
use Rattle.reading_laws.proofs.LimitLaws.{Fits, Within, fits_none, fits_both, fits_left, fits_right}
use Rattle.reading_laws.proofs.TokenLaws.{mark_part}
use Rattle.reading_laws.proofs.FunctionLaws.{function_part, AtMost, InArity, arity_takes, takes_arity, arity_fits}

abbrev pub TermOk : Option ℕ → Term → Type 0
TermOk = Within IsTerm term_brackets

abbrev pub TermIs : Option ℕ → Term → Tokens → Type 0
TermIs m = Spelled spelled_term (TermOk m)

-- ---- the tests

allows_below : (most : Option ℕ) (least n : ℕ) → AtMost most least → n < least → allows most n ≡ true
allows_below None least n h k = refl
allows_below (Some m) least n h k = lt-ltb n m (omega arith)

allows_more : (most : Option ℕ) (n k : ℕ) → AtMost most k → n < k → allows most n ≡ true
allows_more None n k h l = refl
allows_more (Some m) n k h l = lt-ltb n m (omega arith)

one_allowed : (most : Option ℕ) (n : ℕ) → allows most n ≡ true → AtMost most (suc n)
one_allowed None n e = tt
one_allowed (Some m) n e = let h = ltb-true n m e in omega arith

or_cases : (a b : Bool) → (a || b) ≡ true → (a ≡ true) ⊎ (b ≡ true)
or_cases true b e = inl refl
or_cases false b e = inr e

or_false : (a b : Bool) → (a || b) ≡ false → a ≡ false
or_false true b e = cc
or_false false b e = refl

and_first : (a b : Bool) → (a && b) ≡ true → a ≡ true
and_first true b e = refl
and_first false b e = cc

or_second : (a b : Bool) → b ≡ true → (a || b) ≡ true
or_second true b e = refl
or_second false b e = e

wants_allows : (f : Func) (n : ℕ) (ts : Tokens) → wants f n ts ≡ true → allows (arity_of f).most n ≡ true
wants_allows f n ts e =
    elim (or_cases (nat_lt n (arity_of f).least) (allows (arity_of f).most n && begins begins_term ts) e) [
      | inl a ↦ allows_below (arity_of f).most (arity_of f).least n (arity_fits f) (ltb-true n (arity_of f).least a)
      | inr b ↦ and_first (allows (arity_of f).most n) (begins begins_term ts) b
    ]

not_below : (n m : ℕ) → m ≤ n → nat_lt n m ≡ false
not_below n m h = grind (arith, nat_tests)

-- ---- the values of a call

pub term_begins : (t : Term) (rest : Tokens) → begins begins_term (spelled_term t ++ rest) ≡ true
term_begins (simple (a_variable v)) rest = refl
term_begins (simple (a_constant (named w b))) rest = refl
term_begins (simple (a_constant (number z))) rest = refl
term_begins (called f ts) rest = refl

pub term_some : (t : Term) → 0 < length (spelled_term t)
term_some (simple s) = omega arith
term_some (called f ts) = omega arith

-- a value where another may stand
pub record ValueIs (m : Option ℕ) (f : Func) (n : ℕ) (t : Term) (u : Tokens) : Type 0 where
  pub term : TermIs m t u
  pub allowed : allows (arity_of f).most n ≡ true

abbrev Enough : Func → ℕ → Type 0
Enough f n = nat_lt n (arity_of f).least ≡ false

samples : (f : Func) (k n : ℕ) → (arity_of f).least ≤ n + k → (xs : List Term) × (u : Tokens) × Listed (ValueIs None f) (Enough f) one_further n xs u
samples f zero n h = ([], [], (refl, not_below n (arity_of f).least (omega arith)))
samples f (suc k) n h = go (nat_lt n (arity_of f).least) refl (samples f k (suc n) (omega arith))
  where
    go : (b : Bool) → nat_lt n (arity_of f).least ≡ b → (xs : List Term) × (u : Tokens) × Listed (ValueIs None f) (Enough f) one_further (suc n) xs u → (xs : List Term) × (u : Tokens) × Listed (ValueIs None f) (Enough f) one_further n xs u
    go false e later = ([], [], (refl, e))
    go true e later = (
      simple (a_variable []) ∷ later.0,
      variable_named [] ∷ later.1,
      (variable_named [] ∷ [], later.1, refl, record { term = record { spelled = refl; lawful = (tt, tt) }; allowed = allows_below (arity_of f).most (arity_of f).least n (arity_fits f) (ltb-true n (arity_of f).least e) }, later.2),
    )

-- what ends the values: none more is wanted
abbrev NoneWanted : Func → ℕ → Tokens → Type 0
NoneWanted f n rest = wants f n rest ≡ false

values_several : (d : ℕ) (f : Func) → Exact (TermIs (Some d)) (TermIs None) Always (term_at d) → Several (ValueIs (Some d) f) (ValueIs None f) (Enough f) Always (NoneWanted f) (wants f) one_further (term_at d)
values_several d f x = record {
  some = λ n t u v. subst (λ l. 0 < length l) (sym v.term.spelled) (term_some t);
  shortens = exact_shortens {W = TermIs None} (term_at d) x.steps (λ t u v. subst (λ l. 0 < length l) (sym v.spelled) (term_some t));
  looks = λ n. record { same = λ t x y. refl };
  each = λ n ts e. said_outcome (term_at d) ts (λ t u v. record { term = v; allowed = wants_allows f n ts e }) (λ t u v. record { term = v; allowed = wants_allows f n ts e }) (x.outcome ts);
  reads = λ n t u rest v s. x.whole t u rest v.term s;
  enters = enters;
  ends = λ n ts e. or_false (nat_lt n (arity_of f).least) (allows (arity_of f).most n && begins begins_term ts) e;
  wide = λ n t u v. record { term = x.wide t u v.term; allowed = v.allowed };
  finish = λ n. samples f (arity_of f).least n (omega arith);
  stops = λ n rest e. e;
  follows = λ n t xs u w rest v l e. tt;
}
  where
    enters : (n : ℕ) (t : Term) (u rest : Tokens) → ValueIs (Some d) f n t u → wants f n (u ++ rest) ≡ true
    enters n t u rest v = or_second (nat_lt n (arity_of f).least) (allows (arity_of f).most n && begins begins_term (u ++ rest))
        (ap (λ a. a && begins begins_term (u ++ rest)) v.allowed ∙ ap (λ l. begins begins_term (l ++ rest)) v.term.spelled ∙ term_begins t rest)

abbrev pub ValuesOk : Option ℕ → Func → List Term → Type 0
ValuesOk m f xs = AllOf (TermOk m) xs × Takes f (length xs)

-- values behind n others
pub record ValuesAre (m : Option ℕ) (f : Func) (n : ℕ) (xs : List Term) (u : Tokens) : Type 0 where
  pub spelled : u ≡ flat_map spelled_term xs
  pub lawful : AllOf (TermOk m) xs
  pub number : InArity f (n + length xs)

values_there : (m : Option ℕ) (f : Func) (n : ℕ) (xs : List Term) (u : Tokens) → AtMost (arity_of f).most n → Listed (ValueIs m f) (Enough f) one_further n xs u → ValuesAre m f n xs u
values_there m f n [] u a h = record { spelled = h.0; lawful = tt; number = let e : n ≡ n + 0 = omega arith in subst (InArity f) e (record { enough = grind (arith, nat_tests, h.1); allowed = a }) }
values_there m f n (x ∷ xs) u a h =
    let l = values_there m f (suc n) xs h.1 (one_allowed (arity_of f).most n h.3.allowed) h.4 in let e : suc n + length xs ≡ n + suc (length xs) = omega arith in
    record { spelled = h.2 ∙ ap (λ k. k ++ h.1) h.3.term.spelled ∙ ap (λ k. spelled_term x ++ k) l.spelled; lawful = (h.3.term.lawful, l.lawful); number = subst (InArity f) e l.number }

values_back : (m : Option ℕ) (f : Func) (n : ℕ) (xs : List Term) → AllOf (TermOk m) xs → InArity f (n + length xs) → Listed (ValueIs m f) (Enough f) one_further n xs (flat_map spelled_term xs)
values_back m f n [] l h = let e = h.enough in (refl, not_below n (arity_of f).least (omega arith))
values_back m f n (x ∷ xs) l h =
    let e : n + suc (length xs) ≡ suc n + length xs = omega arith in (
      spelled_term x,
      flat_map spelled_term xs,
      refl,
      record { term = record { spelled = refl; lawful = l.0 }; allowed = allows_more (arity_of f).most n (n + suc (length xs)) h.allowed (omega arith) },
      values_back m f (suc n) xs l.1 (subst (InArity f) e h),
    )

last_length : (n : ℕ) (xs : List Term) → last one_further n xs ≡ n + length xs
last_length n [] = omega arith
last_length n (x ∷ xs) = last_length (suc n) xs ∙ omega arith

values_exact : (d : ℕ) (f : Func) → Exact (TermIs (Some d)) (TermIs None) Always (term_at d)
    → Exact (Spelled (flat_map spelled_term) (ValuesOk (Some d) f)) (Spelled (flat_map spelled_term) (ValuesOk None f)) (λ xs rest. NoneWanted f (length xs) rest) (several (wants f) one_further (term_at d) 0)
values_exact d f x =
    said_exact (several (wants f) one_further (term_at d) 0) (there (Some d)) (back (Some d)) (there None) wider stops
    (several_exact (ValueIs (Some d) f) (ValueIs None f) (Enough f) Always (NoneWanted f) (wants f) one_further (term_at d) (values_several d f x) 0)
  where
    all : (xs : List Term) → 0 + length xs ≡ length xs
    all xs = omega arith

    none : (most : Option ℕ) → AtMost most 0
    none None = tt
    none (Some m) = omega arith

    there : (m : Option ℕ) (xs : List Term) (u : Tokens) → Listed (ValueIs m f) (Enough f) one_further 0 xs u → Spelled (flat_map spelled_term) (ValuesOk m f) xs u
    there m xs u h = let v = values_there m f 0 xs u (none (arity_of f).most) h in record { spelled = v.spelled; lawful = (v.lawful, arity_takes f (length xs) (subst (InArity f) (all xs) v.number)) }

    back : (m : Option ℕ) (xs : List Term) (u : Tokens) → Spelled (flat_map spelled_term) (ValuesOk m f) xs u → Listed (ValueIs m f) (Enough f) one_further 0 xs u
    back m xs u z = subst (λ l. Listed (ValueIs m f) (Enough f) one_further 0 xs l) (sym z.spelled) (values_back m f 0 xs z.lawful.0 (subst (InArity f) (sym (all xs)) (takes_arity f (length xs) z.lawful.1)))

    wide : (xs : List Term) → AllOf (TermOk (Some d)) xs → AllOf (TermOk None) xs
    wide [] h = tt
    wide (t ∷ xs) h = ((h.0.0, tt), wide xs h.1)

    wider : (xs : List Term) (u : Tokens) → Spelled (flat_map spelled_term) (ValuesOk (Some d) f) xs u → Spelled (flat_map spelled_term) (ValuesOk None f) xs u
    wider xs u z = record { spelled = z.spelled; lawful = (wide xs z.lawful.0, z.lawful.1) }

    stops : (xs : List Term) (rest : Tokens) → NoneWanted f (length xs) rest → NoneWanted f (last one_further 0 xs) rest
    stops xs rest e = ap (λ n. wants f n rest) (last_length 0 xs ∙ all xs) ∙ e

-- ---- values in a list, and as a tree

abbrev pub list_of : Terms → List Term
list_of no_terms = []
list_of (term_and t ts) = t ∷ list_of ts

pub terms_again : (ts : Terms) → terms_of (list_of ts) ≡ ts
terms_again no_terms = refl
terms_again (term_and t ts) = ap (λ l. term_and t l) (terms_again ts)

pub list_again : (xs : List Term) → list_of (terms_of xs) ≡ xs
list_again [] = refl
list_again (x ∷ xs) = ap (λ l. x ∷ l) (list_again xs)

pub spelled_list : (ts : Terms) → flat_map spelled_term (list_of ts) ≡ spelled_terms ts
spelled_list no_terms = refl
spelled_list (term_and t ts) = ap (λ l. spelled_term t ++ l) (spelled_list ts)

pub length_list : (ts : Terms) → length (list_of ts) ≡ count_of ts
length_list no_terms = refl
length_list (term_and t ts) = ap suc (length_list ts)

pub terms_within : (m : Option ℕ) (ts : Terms) → AllOf (TermOk m) (list_of ts) ↔ (AreTerms ts × Fits m (terms_brackets ts))
terms_within m ts = (there ts, back ts)
  where
    there : (ts : Terms) → AllOf (TermOk m) (list_of ts) → AreTerms ts × Fits m (terms_brackets ts)
    there no_terms h = (tt, fits_none m)
    there (term_and t ts) h = let l = there ts h.1 in ((h.0.0, l.0), fits_both m (term_brackets t) (terms_brackets ts) h.0.1 l.1)

    back : (ts : Terms) → AreTerms ts × Fits m (terms_brackets ts) → AllOf (TermOk m) (list_of ts)
    back no_terms h = tt
    back (term_and t ts) h = ((h.0.0, fits_left m (term_brackets t) (terms_brackets ts) h.1), back ts (h.0.1, fits_right m (term_brackets t) (terms_brackets ts) h.1))

-- ---- a call

abbrev pub IsCall : Term → Type 0
IsCall (simple s) = ⊥
IsCall (called f ts) = Unit {0}

abbrev pub function_of : Term → Func
function_of (simple s) = func.Plus
function_of (called f ts) = f

abbrev pub values_in : Term → List Term
values_in (simple s) = []
values_in (called f ts) = list_of ts

abbrev pub CallTail : Term → Tokens
CallTail c = mark 40 ∷ (spelled_function (function_of c) ∷ (flat_map spelled_term (values_in c) ++ (mark 41 ∷ [])))

abbrev pub CallOk : Option ℕ → Term → Type 0
CallOk m c = Unit {0} × (Unit {0} × (ValuesOk m (function_of c) (values_in c) × Unit {0}))

call_again : (c : Term) (f : Func) (xs : List Term) → IsCall c → function_of c ≡ f → values_in c ≡ xs → called f (terms_of xs) ≡ c
call_again (simple s) f xs h e g = absurd h
call_again (called f ts) g xs h e k = λ i. called (sym e i) ((ap terms_of (sym k) ∙ terms_again ts) i)

pub call_exact : (d : ℕ) → Exact (TermIs (Some d)) (TermIs None) Always (term_at d) → Exact (Piece IsCall CallTail (CallOk (Some d))) (Piece IsCall CallTail (CallOk None)) Always (call_at (term_at d))
call_exact d x =
    piece_exact {Of = IsCall} (λ (c : Term). record {}) (λ _. mark 40 ∷ []) (λ c. spelled_function (function_of c) ∷ (flat_map spelled_term (values_in c) ++ (mark 41 ∷ []))) (mark_part 40)
    (λ _. piece_exact {ok = λ c. ValuesOk (Some d) (function_of c) (values_in c) × Unit {0}} {wide = λ c. ValuesOk None (function_of c) (values_in c) × Unit {0}}
    function_of (λ f. spelled_function f ∷ []) (λ c. flat_map spelled_term (values_in c) ++ (mark 41 ∷ [])) function_part
    (λ f. said_exact (λ ts. then_read (several (wants f) one_further (term_at d) 0 ts) (λ values rest. then_read (token (is_mark 41) rest) (λ _ rest. Ok (called f (terms_of values), rest))))
    (λ c u z. record { known = z.known; spelled = z.spelled; lawful = (subst (λ g. ValuesOk (Some d) g (values_in c)) (sym z.known.1) z.lawful.0, tt) })
    (λ c u z. record { known = z.known; spelled = z.spelled; lawful = (subst (λ g. ValuesOk (Some d) g (values_in c)) z.known.1 z.lawful.0, tt) })
    (λ c u z. record { known = z.known; spelled = z.spelled; lawful = (subst (λ g. ValuesOk None g (values_in c)) (sym z.known.1) z.lawful.0, tt) })
    (λ c u z. record { known = z.known; spelled = z.spelled; lawful = (((values_exact d (function_of c) x).wide (values_in c) (flat_map spelled_term (values_in c)) (record { spelled = refl; lawful = z.lawful.0 })).lawful, tt) })
    (λ c rest s. s)
    (piece_exact_known values_in (flat_map spelled_term) (λ c. mark 41 ∷ []) (values_exact d f x)
    (λ vs. last_exact (λ (c : Term). record {}) (λ _. mark 41 ∷ []) (λ _. called f (terms_of vs)) (mark_part 41) (λ _. (((tt, refl), refl), list_again vs)) (λ _. refl)
    (λ c k. call_again c f vs k.0.0.0 k.0.1 k.1))
    (λ c rest k l s. closes f (length (values_in c)) (takes_arity f (length (values_in c)) k.1))))
    (λ c rest l s. tt))
    (λ c rest l s. tt)
  where
    closes : (f : Func) (n : ℕ) → InArity f n → (nat_lt n (arity_of f).least || (allows (arity_of f).most n && false)) ≡ false
    closes f n h = both (nat_lt n (arity_of f).least) (allows (arity_of f).most n) (not_below n (arity_of f).least h.enough)
      where
        both : (a b : Bool) → a ≡ false → (a || (b && false)) ≡ false
        both true b e = e
        both false true e = refl
        both false false e = refl
