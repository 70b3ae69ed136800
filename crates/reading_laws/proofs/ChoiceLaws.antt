-- Readers of one token, and of one thing or another by the token in front.
use Rattle.std.proofs.Common.{◌≡◌, refl, sym, ◌∙◌, ap, true, false, [], ◌∷◌, ◌++◌, Bool, Option, Some, None, ◌⊎◌, inl, inr, Ok, Err, length, arith}
use Rattle.defs_text.specs.Lexing.{Saying}
use Rattle.defs_read.specs.Readers.{unexpected, deep, Read, begins, token, taken, taken_by}
use Rattle.defs_read.specs.Spelling.{Tokens}
use Rattle.reading_laws.proofs.ReaderLaws.{Viable, Outcome, read_all, read_front, ended, refused, Took, Exact, rest_in, Always, said_outcome, said_exact, same_outcome, widen_viable}

-- ---- one token

pub record OneToken (is : Saying → Bool) (e : record {}) (u : Tokens) : Type 0 where
  pub one : Saying
  pub whole : u ≡ one ∷ []
  pub fits : is one ≡ true

token_reads : (is : Saying → Bool) (t : Saying) (y : Tokens) → is t ≡ true → token is (t ∷ y) ≡ Ok (record {}, y)
token_reads is t y e = ap (λ b. elim b as (λ _. Read Saying (record {})) [ true ↦ Ok (record {}, y) | false ↦ Err (unexpected, length (t ∷ y)) ]) e

token_refuses : (is : Saying → Bool) (t : Saying) (y : Tokens) → is t ≡ false → token is (t ∷ y) ≡ Err (unexpected, length (t ∷ y))
token_refuses is t y e = ap (λ b. elim b as (λ _. Read Saying (record {})) [ true ↦ Ok (record {}, y) | false ↦ Err (unexpected, length (t ∷ y)) ]) e

pub token_exact : (is : Saying → Bool) (t : Saying) → is t ≡ true → Exact (OneToken is) (OneToken is) Always (token is)
token_exact is t fits = record {
  outcome = outcome;
  whole = λ a u rest o s. ap (λ l. token is (l ++ rest)) o.whole ∙ token_reads is o.one rest o.fits;
  wide = λ a u o. o;
  sample = (record {}, t ∷ [], record { one = t; whole = refl; fits = fits });
  steps = steps;
}
  where
    steps : (ts : Tokens) (a : record {}) (rest : Tokens) → token is ts ≡ Ok (a, rest) → Took (OneToken is) a ts rest
    steps [] a rest e = absurd (cc)
    steps (c ∷ ts) a rest e = go (is c) e
      where
        go : (b : Bool) → elim b as (λ _. Read Saying (record {})) [ true ↦ Ok (record {}, ts) | false ↦ Err (unexpected, length (c ∷ ts)) ] ≡ Ok (a, rest) → Took (OneToken is) a (c ∷ ts) rest
        go true e = let left = ap (λ r. length (rest_in r)) e in (1, omega arith, λ z. absurd (omega arith))
        go false e = absurd (cc)

    nothing : Viable (OneToken is) []
    nothing = record { tree = record {}; more = t ∷ []; spells = record { one = t; whole = refl; fits = fits } }

    outcome : (ts : Tokens) → Outcome (OneToken is) (OneToken is) (token is) ts
    outcome [] = ended nothing refl
    outcome (c ∷ ts) = go ts (is c) refl
      where
        go : (ts : Tokens) (b : Bool) → is c ≡ b → Outcome (OneToken is) (OneToken is) (token is) (c ∷ ts)
        go [] true e = read_all (record {}) (record { one = c; whole = refl; fits = e }) (token_reads is c [] e)
        go (d ∷ ts) true e = read_front (record {}) (c ∷ []) d ts refl (record { one = c; whole = refl; fits = e }) (λ y. token_reads is c (d ∷ y) e)
        go ts false e = refused unexpected [] c ts refl nothing (λ d. absurd (cc)) (λ y. token_refuses is c y e)

-- a token that stands for something
pub record Stands {A : Type 0} (as_part : Saying → Option A) (a : A) (u : Tokens) : Type 0 where
  pub one : Saying
  pub whole : u ≡ one ∷ []
  pub fits : as_part one ≡ Some a

pub taken_exact : {A : Type 0} (as_part : Saying → Option A) (t : Saying) (a : A) → as_part t ≡ Some a → Exact (Stands as_part) (Stands as_part) Always (taken as_part)
taken_exact {A} as_part t a fits = record {
  outcome = outcome;
  whole = λ a u rest o s. ap (λ l. taken as_part (l ++ rest)) o.whole ∙ ap (λ r. taken_by r o.one rest) o.fits;
  wide = λ a u o. o;
  sample = (a, t ∷ [], record { one = t; whole = refl; fits = fits });
  steps = steps;
}
  where
    steps : (ts : Tokens) (b : A) (rest : Tokens) → taken as_part ts ≡ Ok (b, rest) → Took (Stands as_part) b ts rest
    steps [] b rest e = absurd (cc)
    steps (c ∷ ts) b rest e = go (as_part c) e
      where
        go : (o : Option A) → taken_by o c ts ≡ Ok (b, rest) → Took (Stands as_part) b (c ∷ ts) rest
        go (Some d) e = let left = ap (λ r. length (rest_in r)) e in (1, omega arith, λ z. absurd (omega arith))
        go None e = absurd (cc)

    nothing : Viable (Stands as_part) []
    nothing = record { tree = a; more = t ∷ []; spells = record { one = t; whole = refl; fits = fits } }

    outcome : (ts : Tokens) → Outcome (Stands as_part) (Stands as_part) (taken as_part) ts
    outcome [] = ended nothing refl
    outcome (c ∷ ts) = go ts (as_part c) refl
      where
        go : (ts : Tokens) (o : Option A) → as_part c ≡ o → Outcome (Stands as_part) (Stands as_part) (taken as_part) (c ∷ ts)
        go [] (Some b) e = read_all b (record { one = c; whole = refl; fits = e }) (ap (λ r. taken_by r c []) e)
        go (d ∷ ts) (Some b) e = read_front b (c ∷ []) d ts refl (record { one = c; whole = refl; fits = e }) (λ y. ap (λ r. taken_by r c (d ∷ y)) e)
        go ts None e = refused unexpected [] c ts refl nothing (λ d. absurd (cc)) (λ y. ap (λ r. taken_by r c y) e)

-- ---- by the next token, this reader or that

-- a test that sees the first token alone
pub record Looks (test : Tokens → Bool) : Type 0 where
  pub same : (t : Saying) (x y : Tokens) → test (t ∷ x) ≡ test (t ∷ y)

pub begins_looks : (is : Saying → Bool) → Looks (begins is)
begins_looks is = record { same = λ t x y. refl }

pub looks_along : (test : Tokens → Bool) → Looks test → (u : Tokens) (t : Saying) (x y : Tokens) → test (u ++ (t ∷ x)) ≡ test (u ++ (t ∷ y))
looks_along test looks [] t x y = looks.same t x y
looks_along test looks (c ∷ u) t x y = looks.same c (u ++ (t ∷ x)) (u ++ (t ∷ y))

abbrev pub Either : {A : Type 0} → (A → Tokens → Type 0) → (A → Tokens → Type 0) → A → Tokens → Type 0
Either L M a u = L a u ⊎ M a u

pub choice_true : {A : Type 0} {L W : A → Tokens → Type 0} (test : Tokens → Bool) (p q : Tokens → Read Saying A) (ts : Tokens) → Looks test → test ts ≡ true → Outcome L W p ts
    → Outcome L W (λ ts. elim (test ts) [ true ↦ p ts | false ↦ q ts ]) ts
choice_true {A} test p q ts looks e = same_outcome p (λ ts. elim (test ts) [ true ↦ p ts | false ↦ q ts ]) ts (at ts e) (λ u t v y d. at (u ++ (t ∷ y)) (looks_along test looks u t y v ∙ ap test (sym d) ∙ e))
  where
    at : (l : Tokens) → test l ≡ true → elim (test l) as (λ _. Read Saying A) [ true ↦ p l | false ↦ q l ] ≡ p l
    at l f = ap (λ b. elim b as (λ _. Read Saying A) [ true ↦ p l | false ↦ q l ]) f

pub choice_false : {A : Type 0} {L W : A → Tokens → Type 0} (test : Tokens → Bool) (p q : Tokens → Read Saying A) (ts : Tokens) → Looks test → test ts ≡ false → Outcome L W q ts
    → Outcome L W (λ ts. elim (test ts) [ true ↦ p ts | false ↦ q ts ]) ts
choice_false {A} test p q ts looks e = same_outcome q (λ ts. elim (test ts) [ true ↦ p ts | false ↦ q ts ]) ts (at ts e) (λ u t v y d. at (u ++ (t ∷ y)) (looks_along test looks u t y v ∙ ap test (sym d) ∙ e))
  where
    at : (l : Tokens) → test l ≡ false → elim (test l) as (λ _. Read Saying A) [ true ↦ p l | false ↦ q l ] ≡ q l
    at l f = ap (λ b. elim b as (λ _. Read Saying A) [ true ↦ p l | false ↦ q l ]) f

-- which of the two a spelling is for is seen by its first token
pub record Tells {A : Type 0} (test : Tokens → Bool) (L M : A → Tokens → Type 0) (S : A → Tokens → Type 0) : Type 0 where
  pub first : (a : A) (u rest : Tokens) → L a u → test (u ++ rest) ≡ true
  pub second : (a : A) (u rest : Tokens) → M a u → S a rest → test (u ++ rest) ≡ false

pub choice_exact : {A : Type 0} {L M V W : A → Tokens → Type 0} {S : A → Tokens → Type 0} (test : Tokens → Bool) (p q : Tokens → Read Saying A)
    → Looks test → Tells test L M S → Exact L V S p → Exact M W S q → Exact (Either L M) (Either V W) S (λ ts. elim (test ts) [ true ↦ p ts | false ↦ q ts ])
choice_exact {A} {L} {M} {V} {W} {S} test p q looks tells x y = record {
  outcome = λ ts. outcome ts (test ts) refl;
  whole = whole;
  wide = wide;
  sample = (x.sample.0, x.sample.1, inl x.sample.2);
  steps = λ ts a rest e. steps ts a rest (test ts) e;
}
  where
    steps : (ts : Tokens) (a : A) (rest : Tokens) (b : Bool) → elim b as (λ _. Read Saying A) [ true ↦ p ts | false ↦ q ts ] ≡ Ok (a, rest) → Took (Either V W) a ts rest
    steps ts a rest true e = let m = x.steps ts a rest e in (m.0, m.1, λ z. inl (m.2 z))
    steps ts a rest false e = let m = y.steps ts a rest e in (m.0, m.1, λ z. inr (m.2 z))

    outcome : (ts : Tokens) → (b : Bool) → test ts ≡ b → Outcome (Either L M) (Either V W) (λ ts. elim (test ts) [ true ↦ p ts | false ↦ q ts ]) ts
    outcome ts true e = choice_true test p q ts looks e (said_outcome p ts (λ a u l. inl l) (λ a u l. inl l) (x.outcome ts))
    outcome ts false e = choice_false test p q ts looks e (said_outcome q ts (λ a u l. inr l) (λ a u l. inr l) (y.outcome ts))

    whole : (a : A) (u rest : Tokens) → Either L M a u → S a rest → elim (test (u ++ rest)) as (λ _. Read Saying A) [ true ↦ p (u ++ rest) | false ↦ q (u ++ rest) ] ≡ Ok (a, rest)
    whole a u rest (inl l) s = ap (λ b. elim b as (λ _. Read Saying A) [ true ↦ p (u ++ rest) | false ↦ q (u ++ rest) ]) (tells.first a u rest l) ∙ x.whole a u rest l s
    whole a u rest (inr m) s = ap (λ b. elim b as (λ _. Read Saying A) [ true ↦ p (u ++ rest) | false ↦ q (u ++ rest) ]) (tells.second a u rest m s) ∙ y.whole a u rest m s

    wide : (a : A) (u : Tokens) → Either L M a u → Either V W a u
    wide a u (inl l) = inl (x.wide a u l)
    wide a u (inr m) = inr (y.wide a u m)

-- ---- tokens that are known by what they stand for

abbrev pub Only : {A : Type 0} → (A → Saying) → A → Tokens → Type 0
Only tok a u = u ≡ tok a ∷ []

-- exactly that token stands for the part
pub record Names {A : Type 0} (as_part : Saying → Option A) (tok : A → Saying) : Type 0 where
  pub back : (a : A) → as_part (tok a) ≡ Some a
  pub only : (t : Saying) (a : A) → as_part t ≡ Some a → t ≡ tok a

pub named_exact : {A : Type 0} (as_part : Saying → Option A) (tok : A → Saying) → Names as_part tok → A → Exact (Only tok) (Only tok) Always (taken as_part)
named_exact {A} as_part tok n a = said_exact (taken as_part) there back there (λ a u e. e) (λ a rest s. s) (taken_exact as_part (tok a) a (n.back a))
  where
    there : (a : A) (u : Tokens) → Stands as_part a u → Only tok a u
    there a u s = s.whole ∙ ap (λ t. t ∷ []) (n.only s.one a s.fits)

    back : (a : A) (u : Tokens) → Only tok a u → Stands as_part a u
    back a u e = record { one = tok a; whole = e; fits = n.back a }

-- one token and no other passes the test
pub one_exact : (is : Saying → Bool) (t : Saying) → is t ≡ true → ((c : Saying) → is c ≡ true → c ≡ t) → Exact (Only {A = record {}} (λ _. t)) (Only {A = record {}} (λ _. t)) Always (token is)
one_exact is t fits only = said_exact (token is) there back there (λ a u e. e) (λ a rest s. s) (token_exact is t fits)
  where
    there : (a : record {}) (u : Tokens) → OneToken is a u → Only {A = record {}} (λ _. t) a u
    there a u s = s.whole ∙ ap (λ t. t ∷ []) (only s.one s.fits)

    back : (a : record {}) (u : Tokens) → Only {A = record {}} (λ _. t) a u → OneToken is a u
    back a u e = record { one = t; whole = e; fits = fits }

-- ---- where the limit is reached

pub record Begun {A : Type 0} (is : Saying → Bool) (V : A → Tokens → Type 0) : Type 0 where
  pub each : (t : Saying) → is t ≡ true → Viable V (t ∷ [])

pub deep_exact : {A : Type 0} {M V W : A → Tokens → Type 0} {S : A → Tokens → Type 0} (is : Saying → Bool) (q : Tokens → Read Saying A)
    → Begun is V → ((a : A) (u rest : Tokens) → M a u → S a rest → begins is (u ++ rest) ≡ false) → Exact M W S q
    → Exact M (Either V W) S (λ ts. elim (begins is ts) [ true ↦ Err (deep, length ts) | false ↦ q ts ])
deep_exact {A} {M} {V} {W} {S} is q begun avoids y = record {
  outcome = outcome;
  whole = λ a u rest m s. ap (λ b. elim b as (λ _. Read Saying A) [ true ↦ Err (deep, length (u ++ rest)) | false ↦ q (u ++ rest) ]) (avoids a u rest m s) ∙ y.whole a u rest m s;
  wide = λ a u m. inr (y.wide a u m);
  sample = (y.sample.0, y.sample.1, inr y.sample.2);
  steps = λ ts a rest e. steps ts a rest (begins is ts) e;
}
  where
    steps : (ts : Tokens) (a : A) (rest : Tokens) (b : Bool) → elim b as (λ _. Read Saying A) [ true ↦ Err (deep, length ts) | false ↦ q ts ] ≡ Ok (a, rest) → Took (Either V W) a ts rest
    steps ts a rest true e = absurd (cc)
    steps ts a rest false e = let m = y.steps ts a rest e in (m.0, m.1, λ z. inr (m.2 z))

    none : Viable (Either V W) []
    none = record { tree = y.sample.0; more = y.sample.1; spells = inr y.sample.2 }

    by_second : (ts : Tokens) → begins is ts ≡ false → Outcome M (Either V W) (λ ts. elim (begins is ts) [ true ↦ Err (deep, length ts) | false ↦ q ts ]) ts
    by_second ts e = choice_false (begins is) (λ ts. Err (deep, length ts)) q ts (begins_looks is) e (said_outcome q ts (λ a u m. m) (λ a u l. inr l) (y.outcome ts))

    outcome : (ts : Tokens) → Outcome M (Either V W) (λ ts. elim (begins is ts) [ true ↦ Err (deep, length ts) | false ↦ q ts ]) ts
    outcome [] = by_second [] refl
    outcome (t ∷ ts) = go (is t) refl
      where
        go : (b : Bool) → is t ≡ b → Outcome M (Either V W) (λ ts. elim (begins is ts) [ true ↦ Err (deep, length ts) | false ↦ q ts ]) (t ∷ ts)
        go true e = refused deep [] t ts refl none (λ d. widen_viable (t ∷ []) (λ a u l. inl l) (begun.each t e))
            (λ y. ap (λ b. elim b as (λ _. Read Saying A) [ true ↦ Err (deep, length (t ∷ y)) | false ↦ q (t ∷ y) ]) e)
        go false e = by_second (t ∷ ts) e
