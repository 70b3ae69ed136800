-- Preferences are read exactly.
use Rattle.std.specs.Prelude.{◌==◌, ◌||◌, if◌then◌else◌}
use Rattle.std.proofs.Common.{◌≡◌, refl, sym, ◌∙◌, ap, subst, true, false, [], ◌∷◌, ◌++◌, List, ℕ, Bool, Option, Some, None, inl, inr, Ok, arith, flat_map}
use Rattle.std.proofs.lemmas.Bool.Decides.{nat_tests}
use Rattle.defs_text.specs.Lexing.{Saying, mark, sign}
use Rattle.defs_read.specs.Grammar.{Term, Compared, WishTree, accepting, rejecting, requiring, prohibiting, comparing}
use Rattle.defs_read.specs.Readers.{then_read, begins, taken, several, many}
use Rattle.defs_read.specs.ReadingTokens.{is_mark, is_sign}
use Rattle.defs_read.specs.ReadingValues.{begins_term, term_at}
use Rattle.defs_read.specs.ReadingActions.{is_comparing, as_comparing, compared_at, as_mark_wish, begins_wish, wish_at}
use Rattle.defs_read.specs.Spelling.{Tokens, spelled_option, spelled_term, spelled_wish}
use Rattle.reading_laws.specs.Lawful.{AllOf, IfThere, IsTerm, IsComparing, IsWish, has_none, is_bare_wish, ends_bare}
use Rattle.reading_laws.specs.Brackets.{term_brackets, wish_brackets}
use Rattle.reading_laws.proofs.ReaderLaws.{Exact, Always, said_exact, equal_exact, append_assoc}
use Rattle.reading_laws.proofs.ChoiceLaws.{Either, Stands, begins_looks, taken_exact, choice_exact}
use Rattle.reading_laws.proofs.SeveralLaws.{last, several_alike}
use Rattle.reading_laws.proofs.PieceLaws.{Spelled, piece_exact, last_exact, piece_done, NoFront, optional_exact, Built, built_exact}
use Rattle.reading_laws.proofs.ChainLaws.{Lets, ChainOf, chain_exact}
use Rattle.reading_laws.proofs.LimitLaws.{Within, fits_none, there_within}
use Rattle.reading_laws.proofs.TokenLaws.{sign_part, sign_only, mark_only, sign_where}
use Rattle.reading_laws.proofs.TermLaws.{term_exact}
use Rattle.reading_laws.proofs.CallLaws.{TermOk, term_begins}

-- ---- a preference that compares

passes : (k : ℕ) → IsComparing k → ((k == 0) || ((k == 1) || (k == 6))) ≡ true
passes k (inl e) = ap (λ n. (n == 0) || ((n == 1) || (n == 6))) e
passes k (inr (inl e)) = ap (λ n. (n == 0) || ((n == 1) || (n == 6))) e
passes k (inr (inr e)) = ap (λ n. (n == 0) || ((n == 1) || (n == 6))) e

holds : (k : ℕ) → ((k == 0) || ((k == 1) || (k == 6))) ≡ true → IsComparing k
holds k e = first (k == 0) refl e
  where
    third : (b : Bool) → (k == 6) ≡ b → b ≡ true → IsComparing k
    third true f e = inr (inr (grind (arith, nat_tests)))
    third false f e = absurd (cc)

    second : (b : Bool) → (k == 1) ≡ b → (b || (k == 6)) ≡ true → IsComparing k
    second true f e = inr (inl (grind (arith, nat_tests)))
    second false f e = third (k == 6) refl e

    first : (b : Bool) → (k == 0) ≡ b → (b || ((k == 1) || (k == 6))) ≡ true → IsComparing k
    first true f e = inl (grind (arith, nat_tests))
    first false f e = second (k == 1) refl e

comparing_part : Exact (Spelled (λ k. sign k ∷ []) IsComparing) (Spelled (λ k. sign k ∷ []) IsComparing) Always (taken as_comparing)
comparing_part = sign_part (λ k. (k == 0) || ((k == 1) || (k == 6))) IsComparing as_comparing same holds passes 0 (inl refl)
  where
    same : (t : Saying) → as_comparing t ≡ sign_where (λ k. (k == 0) || ((k == 1) || (k == 6))) t
    same (sign k) = refl
    same (mark b) = refl
    same _ = refl

abbrev spelled_compared : Compared → Tokens
spelled_compared c = spelled_wish (comparing c)

abbrev ComparedOk : Option ℕ → Compared → Type 0
ComparedOk m c = IsComparing c.sign × IfThere (TermOk m) c.referent

-- without a referent no value follows
abbrev NoReferent : Compared → Tokens → Type 0
NoReferent c rest = NoFront begins_term Always c.referent rest

compared_exact : (d : ℕ) → Exact (Spelled spelled_compared (ComparedOk (Some d))) (Spelled spelled_compared (ComparedOk None)) NoReferent (compared_at d)
compared_exact d =
    piece_done spelled_compared spelled_compared (λ c. refl) (λ c. (λ h. h, λ h. h)) (λ c. (λ h. h, λ h. h))
    (piece_exact {Of = λ c. Unit {0}} (λ (c : Compared). c.sign) (λ k. sign k ∷ []) (λ c. spelled_option spelled_term c.referent) comparing_part
    (λ s. last_exact (λ (c : Compared). c.referent) (spelled_option spelled_term) (λ r. record { sign = s; referent = r }) (optional_exact begins_term spelled_term (TermOk (Some d)) (TermOk None) (term_at d) (term_exact d) (λ t rest l. term_begins t rest))
    (λ r. (tt, refl)) (λ r. refl) (λ c k. λ i. record { sign = sym k.1 i; referent = c.referent }))
    (λ c rest l s. tt))

-- ---- one that is a mark

abbrev pub IsMarkWish : WishTree → Type 0
IsMarkWish accepting = Unit {0}
IsMarkWish rejecting = Unit {0}
IsMarkWish requiring = Unit {0}
IsMarkWish prohibiting = Unit {0}
IsMarkWish (comparing c) = ⊥

-- what a token stands for
abbrev pub Means : Saying → WishTree → Type 0
Means t w = (t ∷ [] ≡ spelled_wish w) × IsMarkWish w

chosen : (t : Saying) (w v : WishTree) → t ∷ [] ≡ spelled_wish v → IsMarkWish v → ◌≡◌ {A = Option WishTree} (Some v) (Some w) → Means t w
chosen t w v e l h = let same : v ≡ w = cc in subst (Means t) same (e, l)

fourth : (t : Saying) (w : WishTree) (b : Bool) → is_mark 126 t ≡ b → (if b then Some prohibiting else None) ≡ Some w → Means t w
fourth t w true e h = chosen t w prohibiting (ap (λ x. x ∷ []) (mark_only 126 t e)) tt h
fourth t w false e h = absurd (cc)

third : (t : Saying) (w : WishTree) (b : Bool) → is_mark 33 t ≡ b → (if b then Some requiring else (if is_mark 126 t then Some prohibiting else None)) ≡ Some w → Means t w
third t w true e h = chosen t w requiring (ap (λ x. x ∷ []) (mark_only 33 t e)) tt h
third t w false e h = fourth t w (is_mark 126 t) refl h

second : (t : Saying) (w : WishTree) (b : Bool) → is_sign 8 t ≡ b → (if b then Some rejecting else (if is_mark 33 t then Some requiring else (if is_mark 126 t then Some prohibiting else None))) ≡ Some w → Means t w
second t w true e h = chosen t w rejecting (ap (λ x. x ∷ []) (sign_only 8 t e)) tt h
second t w false e h = third t w (is_mark 33 t) refl h

first : (t : Saying) (w : WishTree) (b : Bool) → is_sign 7 t ≡ b → (if b then Some accepting else (if is_sign 8 t then Some rejecting else (if is_mark 33 t then Some requiring else (if is_mark 126 t then Some prohibiting else None)))) ≡ Some w → Means t w
first t w true e h = chosen t w accepting (ap (λ x. x ∷ []) (sign_only 7 t e)) tt h
first t w false e h = second t w (is_sign 8 t) refl h

pub mark_means : (t : Saying) (w : WishTree) → as_mark_wish t ≡ Some w → Means t w
mark_means t w e = first t w (is_sign 7 t) refl e

mark_wish_exact : Exact (Spelled spelled_wish IsMarkWish) (Spelled spelled_wish IsMarkWish) Always (taken as_mark_wish)
mark_wish_exact = said_exact (taken as_mark_wish) there back there (λ w u z. z) (λ w rest s. s) (taken_exact as_mark_wish (sign 7) accepting refl)
  where
    there : (w : WishTree) (u : Tokens) → Stands as_mark_wish w u → Spelled spelled_wish IsMarkWish w u
    there w u s = let h = mark_means s.one w s.fits in record { spelled = s.whole ∙ h.0; lawful = h.1 }

    back : (w : WishTree) (u : Tokens) → Spelled spelled_wish IsMarkWish w u → Stands as_mark_wish w u
    back accepting u z = record { one = sign 7; whole = z.spelled; fits = refl }
    back rejecting u z = record { one = sign 8; whole = z.spelled; fits = refl }
    back requiring u z = record { one = mark 33; whole = z.spelled; fits = refl }
    back prohibiting u z = record { one = mark 126; whole = z.spelled; fits = refl }
    back (comparing c) u z = absurd z.lawful

-- ---- a preference

abbrev pub WishOk : Option ℕ → WishTree → Type 0
WishOk = Within IsWish wish_brackets

-- what may follow it
abbrev WishStops : WishTree → Tokens → Type 0
WishStops accepting rest = Unit {0}
WishStops rejecting rest = Unit {0}
WishStops requiring rest = Unit {0}
WishStops prohibiting rest = Unit {0}
WishStops (comparing c) rest = NoReferent c rest

abbrev EitherWish : Option ℕ → WishTree → Tokens → Type 0
EitherWish m = Either (Built comparing (Spelled spelled_compared (ComparedOk m))) (Spelled spelled_wish IsMarkWish)

wish_there : (m : Option ℕ) (w : WishTree) (u : Tokens) → EitherWish m w u → Spelled spelled_wish (WishOk m) w u
wish_there m w u (inl b) = let r = (there_within IsTerm term_brackets m b.part.referent).0 b.first.lawful.1 in
    subst (λ x. Spelled spelled_wish (WishOk m) x u) (sym b.same) (record { spelled = b.first.spelled; lawful = ((b.first.lawful.0, r.0), r.1) })
wish_there m accepting u (inr z) = record { spelled = z.spelled; lawful = (tt, fits_none m) }
wish_there m rejecting u (inr z) = record { spelled = z.spelled; lawful = (tt, fits_none m) }
wish_there m requiring u (inr z) = record { spelled = z.spelled; lawful = (tt, fits_none m) }
wish_there m prohibiting u (inr z) = record { spelled = z.spelled; lawful = (tt, fits_none m) }
wish_there m (comparing c) u (inr z) = absurd z.lawful

wish_back : (m : Option ℕ) (w : WishTree) (u : Tokens) → Spelled spelled_wish (WishOk m) w u → EitherWish m w u
wish_back m accepting u z = inr (record { spelled = z.spelled; lawful = tt })
wish_back m rejecting u z = inr (record { spelled = z.spelled; lawful = tt })
wish_back m requiring u z = inr (record { spelled = z.spelled; lawful = tt })
wish_back m prohibiting u z = inr (record { spelled = z.spelled; lawful = tt })
wish_back m (comparing c) u z = inl (record { part = c; same = refl; first = record { spelled = z.spelled; lawful = (z.lawful.0.0, (there_within IsTerm term_brackets m c.referent).1 (z.lawful.0.1, z.lawful.1)) } })

wish_exact : (d : ℕ) → Exact (Spelled spelled_wish (WishOk (Some d))) (Spelled spelled_wish (WishOk None)) WishStops (wish_at d)
wish_exact d =
    said_exact (wish_at d) (wish_there (Some d)) (wish_back (Some d)) (wish_there None) (λ w u z. record { spelled = z.spelled; lawful = (z.lawful.0, tt) }) (λ w rest s. s)
    (choice_exact {S = WishStops} (begins is_comparing) (λ ts. then_read (compared_at d ts) (λ c rest. Ok (comparing c, rest))) (taken as_mark_wish) (begins_looks is_comparing) (record { first = first; second = second })
    (built_exact WishStops comparing (compared_at d) (compared_exact d) (λ c rest s. s))
    (said_exact (taken as_mark_wish) (λ w u z. z) (λ w u z. z) (λ w u z. z) (λ w u z. z) (λ w rest s. tt) mark_wish_exact))
  where
    first : (w : WishTree) (u rest : Tokens) → Built comparing (Spelled spelled_compared (ComparedOk (Some d))) w u → begins is_comparing (u ++ rest) ≡ true
    first w u rest b = ap (λ k. begins is_comparing (k ++ rest)) b.first.spelled ∙ passes b.part.sign b.first.lawful.0

    none : (w : WishTree) (rest : Tokens) → IsMarkWish w → begins is_comparing (spelled_wish w ++ rest) ≡ false
    none accepting rest h = refl
    none rejecting rest h = refl
    none requiring rest h = refl
    none prohibiting rest h = refl
    none (comparing c) rest h = absurd h

    second : (w : WishTree) (u rest : Tokens) → Spelled spelled_wish IsMarkWish w u → WishStops w rest → begins is_comparing (u ++ rest) ≡ false
    second w u rest z s = ap (λ k. begins is_comparing (k ++ rest)) z.spelled ∙ none w rest z.lawful

wish_begins : (w : WishTree) (rest : Tokens) → IsWish w → begins begins_wish (spelled_wish w ++ rest) ≡ true
wish_begins accepting rest h = refl
wish_begins rejecting rest h = refl
wish_begins requiring rest h = refl
wish_begins prohibiting rest h = refl
wish_begins (comparing c) rest h = ap (λ b. b || elim (as_mark_wish (sign c.sign)) [ Some w ↦ true | None ↦ false ]) (passes c.sign h.0)

-- what begins a preference begins no value
pub wish_no_value : (w : WishTree) (rest : Tokens) → begins begins_term (spelled_wish w ++ rest) ≡ false
wish_no_value accepting rest = refl
wish_no_value rejecting rest = refl
wish_no_value requiring rest = refl
wish_no_value prohibiting rest = refl
wish_no_value (comparing c) rest = refl

-- ---- preferences in a row

-- what ends them: none more, and behind a bare one no value
pub record EndsWishes (bare : Bool) (rest : Tokens) : Type 0 where
  pub no_wish : begins begins_wish rest ≡ false
  pub no_referent : bare ≡ true → begins begins_term rest ≡ false

abbrev Bare : Bool → WishTree → Bool
Bare bare w = is_bare_wish w

stops_wish : (w : WishTree) (rest : Tokens) → (is_bare_wish w ≡ true → begins begins_term rest ≡ false) → WishStops w rest
stops_wish accepting rest h = tt
stops_wish rejecting rest h = tt
stops_wish requiring rest h = tt
stops_wish prohibiting rest h = tt
stops_wish (comparing c) rest h = go c.referent h
  where
    go : (o : Option Term) → (has_none o ≡ true → begins begins_term rest ≡ false) → NoFront begins_term Always o rest
    go (Some t) h = tt
    go None h = h refl

all_let : (bare : Bool) (ws : List WishTree) → Lets (λ _. true) Bare bare ws
all_let bare [] = tt
all_let bare (w ∷ ws) = (refl, all_let (is_bare_wish w) ws)

last_bare : (bare : Bool) (ws : List WishTree) → ends_bare bare ws ≡ last Bare bare ws
last_bare bare [] = refl
last_bare bare (w ∷ ws) = last_bare (is_bare_wish w) ws

pub wishes_exact : (d : ℕ) → Exact (Spelled (flat_map spelled_wish) (AllOf (WishOk (Some d)))) (Spelled (flat_map spelled_wish) (AllOf (WishOk None))) (λ ws rest. EndsWishes (ends_bare false ws) rest) (many begins_wish (wish_at d))
wishes_exact d =
    equal_exact (several (λ bare ts. begins begins_wish ts) Bare (wish_at d) false) (many begins_wish (wish_at d)) same
    (said_exact (several (λ bare ts. begins begins_wish ts) Bare (wish_at d) false) (λ ws u z. record { spelled = z.spelled; lawful = z.lawful.each }) (λ ws u z. record { spelled = z.spelled; lawful = record { each = z.lawful; lets_each = all_let false ws } })
    (λ ws u z. record { spelled = z.spelled; lawful = z.lawful.each }) (λ ws u z. record { spelled = z.spelled; lawful = wide ws z.lawful }) (λ ws rest e. subst (λ b. EndsWishes b rest) (last_bare false ws) e)
    (chain_exact (λ _. true) Bare EndsWishes begins_wish spelled_wish (WishOk (Some d)) (WishOk None) (wish_at d) (wish_exact d) (λ w rest l. wish_begins w rest l.0) follows (λ s rest e. e.no_wish) false))
  where
    same : (ts : Tokens) → many begins_wish (wish_at d) ts ≡ several (λ bare ts. begins begins_wish ts) Bare (wish_at d) false ts
    same ts = several_alike {S = record {}} (λ _ ts. begins begins_wish ts) (λ s a. s) (λ (bare : Bool) ts. begins begins_wish ts) Bare (wish_at d) (λ s r ts. Unit {0})
        (record { same = λ s r ts h. refl; stays = λ s r ts a rest h e. tt }) (record {}) false ts tt

    wide : (ws : List WishTree) → AllOf (WishOk (Some d)) ws → AllOf (WishOk None) ws
    wide [] h = tt
    wide (w ∷ ws) h = ((h.0.0, tt), wide ws h.1)

    follows : (s : Bool) (w : WishTree) (ws : List WishTree) (rest : Tokens) → WishOk (Some d) w → ChainOf (λ _. true) Bare (WishOk (Some d)) (is_bare_wish w) ws → EndsWishes (last Bare (is_bare_wish w) ws) rest → WishStops w (flat_map spelled_wish ws ++ rest)
    follows s w [] rest l m e = stops_wish w rest e.no_referent
    follows s w (x ∷ xs) rest l m e = stops_wish w ((spelled_wish x ++ flat_map spelled_wish xs) ++ rest) (λ h. ap (begins begins_term) (append_assoc (spelled_wish x) (flat_map spelled_wish xs) rest) ∙ wish_no_value x (flat_map spelled_wish xs ++ rest))
