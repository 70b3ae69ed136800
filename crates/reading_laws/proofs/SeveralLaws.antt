-- What holds of a reader of several, one after another.
use Rattle.std.proofs.Common.{◌≡◌, refl, sym, ◌∙◌, ap, subst, true, false, [], ◌∷◌, ◌++◌, List, ℕ, zero, suc, Bool, Ok, Err, length, ◌<◌, ◌+◌, ◌-◌, arith, length-append}
use Rattle.defs_text.specs.Lexing.{Saying}
use Rattle.defs_read.specs.Readers.{Read, then_read, several_within, several}
use Rattle.defs_read.specs.Spelling.{Tokens}
use Rattle.reading_laws.proofs.ReaderLaws.{Outcome, Took, tree_in, rest_in, Exact, Joined, Nothing, gives, gives_exact, then_outcome, same_outcome, said_outcome, append_assoc}
use Rattle.reading_laws.proofs.ChoiceLaws.{Looks, choice_true, choice_false}

-- the tokens of a list: those of each, in order, each where the list has come to
abbrev pub Listed : {S A : Type 0} → (S → A → Tokens → Type 0) → (S → Type 0) → (S → A → S) → S → List A → Tokens → Type 0
Listed L MayEnd next s [] u = (u ≡ []) × MayEnd s
Listed L MayEnd next s (x ∷ xs) u = (front : Tokens) × (rest : Tokens) × (u ≡ front ++ rest) × L s x front × Listed L MayEnd next (next s x) xs rest

-- where a list has come to
abbrev pub last : {S A : Type 0} → (S → A → S) → S → List A → S
last next s [] = s
last next s (x ∷ xs) = last next (next s x) xs

pub listed_ends : {S A : Type 0} (L : S → A → Tokens → Type 0) (MayEnd : S → Type 0) (next : S → A → S) (s : S) (xs : List A) (u : Tokens) → Listed L MayEnd next s xs u → MayEnd (last next s xs)
listed_ends L MayEnd next s [] u h = h.1
listed_ends L MayEnd next s (x ∷ xs) u h = listed_ends L MayEnd next (next s x) xs h.1 h.4

pub record Several {S A : Type 0} (L W : S → A → Tokens → Type 0) (MayEnd : S → Type 0) (SA : A → Tokens → Type 0) (Halts : S → Tokens → Type 0)
    (goes : S → Tokens → Bool) (next : S → A → S) (read : Tokens → Read Saying A) : Type 0 where
  pub some : (s : S) (a : A) (u : Tokens) → L s a u → 0 < length u
  pub shortens : (ts : Tokens) (a : A) (rest : Tokens) → read ts ≡ Ok (a, rest) → length rest < length ts
  pub looks : (s : S) → Looks (goes s)
  pub each : (s : S) (ts : Tokens) → goes s ts ≡ true → Outcome (L s) (W s) read ts
  pub reads : (s : S) (a : A) (u rest : Tokens) → L s a u → SA a rest → read (u ++ rest) ≡ Ok (a, rest)
  pub enters : (s : S) (a : A) (u rest : Tokens) → L s a u → goes s (u ++ rest) ≡ true
  pub ends : (s : S) (ts : Tokens) → goes s ts ≡ false → MayEnd s
  pub wide : (s : S) (a : A) (u : Tokens) → L s a u → W s a u
  pub finish : (s : S) → (xs : List A) × (u : Tokens) × Listed W MayEnd next s xs u
  pub stops : (s : S) (rest : Tokens) → Halts s rest → goes s rest ≡ false
  pub follows : (s : S) (a : A) (xs : List A) (u w rest : Tokens) → L s a u → Listed L MayEnd next (next s a) xs w → Halts (last next (next s a) xs) rest → SA a (w ++ rest)

-- a reader of what isn't nothing takes a token
pub exact_shortens : {A : Type 0} {W : A → Tokens → Type 0} (p : Tokens → Read Saying A) → ((ts : Tokens) (a : A) (rest : Tokens) → p ts ≡ Ok (a, rest) → Took W a ts rest)
    → ((a : A) (u : Tokens) → W a u → 0 < length u) → (ts : Tokens) (a : A) (rest : Tokens) → p ts ≡ Ok (a, rest) → length rest < length ts
exact_shortens p steps some ts a rest e = let m = steps ts a rest e in go m.0 m.1 (λ z. some a [] (m.2 z))
  where
    go : (n : ℕ) → length ts ≡ n + length rest → (n ≡ 0 → 0 < length {A = Saying} []) → length rest < length ts
    go zero e f = let h = f refl in absurd (omega arith)
    go (suc n) e f = omega arith

-- one in front of what else was read
abbrev pub and_more : {A : Type 0} → A → Read Saying (List A) → Read Saying (List A)
and_more a r = then_read r (λ more others. Ok (a ∷ more, others))

-- more turns than are enough give the same
enough : {S A : Type 0} (goes : S → Tokens → Bool) (next : S → A → S) (read : Tokens → Read Saying A) → ((ts : Tokens) (a : A) (rest : Tokens) → read ts ≡ Ok (a, rest) → length rest < length ts)
    → (n m : ℕ) (s : S) (ts : Tokens) → length ts < n → length ts < m → several_within n goes next read s ts ≡ several_within m goes next read s ts
enough goes next read shortens zero m s ts h k = absurd (omega arith)
enough goes next read shortens (suc n) zero s ts h k = absurd (omega arith)
enough {S} {A} goes next read shortens (suc n) (suc m) s ts h k = choose (enough goes next read shortens n m) (goes s ts)
  where
    further : ℕ → A → Tokens → Read Saying (List A)
    further n = λ a rest. and_more a (several_within n goes next read (next s a) rest)

    go : ((s : S) (ts : Tokens) → length ts < n → length ts < m → several_within n goes next read s ts ≡ several_within m goes next read s ts)
        → (r : Read Saying A) → read ts ≡ r → ◌≡◌ {A = Read Saying (List A)} (then_read r (λ a rest. and_more a (several_within n goes next read (next s a) rest))) (then_read r (λ a rest. and_more a (several_within m goes next read (next s a) rest)))
    go later (Ok r) e = let less : length r.1 < length ts = shortens ts r.0 r.1 e in ap (λ x. and_more r.0 x) (later (next s r.0) r.1 (omega arith) (omega arith))
    go later (Err e) d = refl

    choose : ((s : S) (ts : Tokens) → length ts < n → length ts < m → several_within n goes next read s ts ≡ several_within m goes next read s ts)
        → (b : Bool) → ◌≡◌ {A = Read Saying (List A)}
        (elim b [ true ↦ then_read (read ts) (λ a rest. and_more a (several_within n goes next read (next s a) rest)) | false ↦ Ok ([], ts) ])
        (elim b [ true ↦ then_read (read ts) (λ a rest. and_more a (several_within m goes next read (next s a) rest)) | false ↦ Ok ([], ts) ])
    choose later true = go later (read ts) refl
    choose later false = refl

-- one turn
abbrev pub one_more : {S A : Type 0} → (S → Tokens → Bool) → (S → A → S) → (Tokens → Read Saying A) → S → Tokens → Read Saying (List A)
one_more goes next read s ts =
    elim (goes s ts) [
      | true ↦ then_read (read ts) (λ a rest. and_more a (several goes next read (next s a) rest))
      | false ↦ Ok ([], ts)
    ]

pub unrolled : {S A : Type 0} (goes : S → Tokens → Bool) (next : S → A → S) (read : Tokens → Read Saying A) → ((ts : Tokens) (a : A) (rest : Tokens) → read ts ≡ Ok (a, rest) → length rest < length ts)
    → (s : S) (ts : Tokens) → several goes next read s ts ≡ one_more goes next read s ts
unrolled {S} {A} goes next read shortens s ts = choose (goes s ts)
  where
    go : (r : Read Saying A) → read ts ≡ r → ◌≡◌ {A = Read Saying (List A)} (then_read r (λ a rest. and_more a (several_within (length ts) goes next read (next s a) rest))) (then_read r (λ a rest. and_more a (several_within (suc (length rest)) goes next read (next s a) rest)))
    go (Ok r) e = let less : length r.1 < length ts = shortens ts r.0 r.1 e in ap (λ x. and_more r.0 x) (enough goes next read shortens (length ts) (suc (length r.1)) (next s r.0) r.1 less (omega arith))
    go (Err e) d = refl

    choose : (b : Bool) → ◌≡◌ {A = Read Saying (List A)}
        (elim b [ true ↦ then_read (read ts) (λ a rest. and_more a (several_within (length ts) goes next read (next s a) rest)) | false ↦ Ok ([], ts) ])
        (elim b [ true ↦ then_read (read ts) (λ a rest. and_more a (several_within (suc (length rest)) goes next read (next s a) rest)) | false ↦ Ok ([], ts) ])
    choose true = go (read ts) refl
    choose false = refl

pub several_exact : {S A : Type 0} (L W : S → A → Tokens → Type 0) (MayEnd : S → Type 0) (SA : A → Tokens → Type 0) (Halts : S → Tokens → Type 0) (goes : S → Tokens → Bool) (next : S → A → S) (read : Tokens → Read Saying A)
    → Several L W MayEnd SA Halts goes next read → (s : S) → Exact (Listed L MayEnd next s) (Listed W MayEnd next s) (λ xs rest. Halts (last next s xs) rest) (several goes next read s)
several_exact {S} {A} L W MayEnd SA Halts goes next read x s = record {
  outcome = λ ts. outcome (suc (length ts)) s ts (omega arith);
  whole = whole s;
  wide = wide s;
  sample = x.finish s;
  steps = λ ts xs rest e. steps (suc (length ts)) s ts xs rest (omega arith) e;
}
  where
    -- the tokens of one and those of the others
    listed : (M : S → A → Tokens → Type 0) (s : S) (xs : List A) (u : Tokens) → Joined (M s) (λ a. Joined (Listed M MayEnd next (next s a)) (λ more. Nothing (a ∷ more))) xs u → Listed M MayEnd next s xs u
    listed M s xs u j =
        let k = j.second in let n = k.second in
        subst (λ l. Listed M MayEnd next s l u) (sym n.same)
        (j.front, k.front, j.whole ∙ ap (λ w. j.front ++ w) (k.whole ∙ ap (λ l. k.front ++ l) n.empty ∙ nil k.front), j.first, k.first)
      where
        nil : (l : Tokens) → l ++ [] ≡ l
        nil [] = refl
        nil (c ∷ l) = ap (λ k. c ∷ k) (nil l)

    wide : (s : S) (xs : List A) (u : Tokens) → Listed L MayEnd next s xs u → Listed W MayEnd next s xs u
    wide s [] u h = h
    wide s (a ∷ xs) u h = (h.0, h.1, h.2, x.wide s a h.0 h.3, wide (next s a) xs h.1 h.4)

    unroll : (s : S) (ts : Tokens) → several goes next read s ts ≡ one_more goes next read s ts
    unroll = unrolled goes next read x.shortens

    whole : (s : S) (xs : List A) (u rest : Tokens) → Listed L MayEnd next s xs u → Halts (last next s xs) rest → several goes next read s (u ++ rest) ≡ Ok (xs, rest)
    whole s [] u rest h e =
        ap (λ l. several goes next read s (l ++ rest)) h.0 ∙ unroll s rest
        ∙ ap (λ b. elim b as (λ _. Read Saying (List A)) [ true ↦ then_read (read rest) (λ a rest. and_more a (several goes next read (next s a) rest)) | false ↦ Ok ([], rest) ]) (x.stops s rest e)
    whole s (a ∷ xs) u rest h e =
        ap (λ l. several goes next read s (l ++ rest)) h.2 ∙ ap (several goes next read s) (append_assoc h.0 h.1 rest) ∙ unroll s (h.0 ++ (h.1 ++ rest))
        ∙ ap (λ b. elim b as (λ _. Read Saying (List A)) [ true ↦ then_read (read (h.0 ++ (h.1 ++ rest))) (λ a rest. and_more a (several goes next read (next s a) rest)) | false ↦ Ok ([], h.0 ++ (h.1 ++ rest)) ]) (x.enters s a h.0 (h.1 ++ rest) h.3)
        ∙ ap (λ r. then_read r (λ a rest. and_more a (several goes next read (next s a) rest))) (x.reads s a h.0 (h.1 ++ rest) h.3 (x.follows s a xs h.0 h.1 rest h.3 h.4 e))
        ∙ ap (λ r. and_more a r) (whole (next s a) xs h.1 rest h.4 e)

    steps : (n : ℕ) (s : S) (ts : Tokens) (xs : List A) (rest : Tokens) → length ts < n → several goes next read s ts ≡ Ok (xs, rest) → Took (Listed W MayEnd next s) xs ts rest
    steps zero s ts xs rest h e = absurd (omega arith)
    steps (suc n) s ts xs rest h e = choose (steps n) (goes s ts) refl (sym (unroll s ts) ∙ e)
      where
        Further : Type 0
        Further = (s : S) (ts : Tokens) (xs : List A) (rest : Tokens) → length ts < n → several goes next read s ts ≡ Ok (xs, rest) → Took (Listed W MayEnd next s) xs ts rest

        more : (a : A) (r : Tokens) → read ts ≡ Ok (a, r) → ((xs : List A) (rest : Tokens) → several goes next read (next s a) r ≡ Ok (xs, rest) → Took (Listed W MayEnd next (next s a)) xs r rest) → (o : Read Saying (List A)) → several goes next read (next s a) r ≡ o
            → and_more a o ≡ Ok (xs, rest) → Took (Listed W MayEnd next s) xs ts rest
        more a r f later (Ok o) g e =
            let less = x.shortens ts a r f in let k = later o.0 o.1 g in let two = k.1 in let left : length o.1 ≡ length rest = ap (λ r. length (rest_in r)) e in
            (length ts - length r + k.0, omega arith, λ z. absurd (omega arith))
        more a r f later (Err o) g e = absurd (cc)

        read_one : Further → (r : Read Saying A) → read ts ≡ r → then_read r (λ a rest. and_more a (several goes next read (next s a) rest)) ≡ Ok (xs, rest) → Took (Listed W MayEnd next s) xs ts rest
        read_one later (Ok r) f e = let less = x.shortens ts r.0 r.1 f in more r.0 r.1 f (λ ys left. later (next s r.0) r.1 ys left (omega arith)) (several goes next read (next s r.0) r.1) refl e
        read_one later (Err r) f e = absurd (cc)

        choose : Further → (b : Bool) → goes s ts ≡ b
            → elim b as (λ _. Read Saying (List A)) [ true ↦ then_read (read ts) (λ a rest. and_more a (several goes next read (next s a) rest)) | false ↦ Ok ([], ts) ] ≡ Ok (xs, rest) → Took (Listed W MayEnd next s) xs ts rest
        choose later true g e = read_one later (read ts) refl e
        choose later false g e =
            let left : length ts ≡ length rest = ap (λ r. length (rest_in r)) e in let none : [] ≡ xs = ap (λ r. tree_in r xs) e in
            (0, omega arith, λ z. subst (λ l. Listed W MayEnd next s l []) none (refl, x.ends s ts g))

    outcome : (n : ℕ) (s : S) (ts : Tokens) → length ts < n → Outcome (Listed L MayEnd next s) (Listed W MayEnd next s) (several goes next read s) ts
    outcome zero s ts h = absurd (omega arith)
    outcome (suc n) s ts h = same_outcome (one_more goes next read s) (several goes next read s) ts (unroll s ts) (λ u t v y d. unroll s (u ++ (t ∷ y))) (choose (outcome n) (goes s ts) refl)
      where
        others : A → Tokens → Read Saying (List A)
        others = λ a rest. and_more a (several goes next read (next s a) rest)

        samples : (a : A) → (b : List A) × (w : Tokens) × Joined (Listed W MayEnd next (next s a)) (λ more. Nothing (a ∷ more)) b w
        samples a = let f = x.finish (next s a) in (a ∷ f.0, f.1 ++ [], record { part = f.0; front = f.1; rest = []; whole = refl; first = f.2; second = record { same = refl; empty = refl } })

        less : (a : A) (u r : Tokens) → L s a u → ts ≡ u ++ r → length r < n
        less a u r l d = let some = x.some s a u l in let whole : length ts ≡ length u + length r = ap length d ∙ length-append u r in omega arith

        choose : ((s : S) (ts : Tokens) → length ts < n → Outcome (Listed L MayEnd next s) (Listed W MayEnd next s) (several goes next read s) ts)
            → (b : Bool) → goes s ts ≡ b → Outcome (Listed L MayEnd next s) (Listed W MayEnd next s) (one_more goes next read s) ts
        choose later true e =
            choice_true (goes s) (λ ts. then_read (read ts) (λ a rest. and_more a (several goes next read (next s a) rest))) (λ ts. Ok ([], ts)) ts (x.looks s) e
            (said_outcome (λ ts. then_read (read ts) (λ a rest. and_more a (several goes next read (next s a) rest))) ts (listed L s) (listed W s)
            (then_outcome read (λ a rest. and_more a (several goes next read (next s a) rest)) ts (x.wide s) samples (x.each s ts e)
            (λ a u r l d. then_outcome (several goes next read (next s a)) (λ more. gives (a ∷ more)) r (wide (next s a)) (λ more. (a ∷ more, [], record { same = refl; empty = refl }))
            (later (next s a) r (less a u r l d)) (λ more w r2 l m. (gives_exact (a ∷ more)).outcome r2))))
        choose later false e =
            choice_false (goes s) (λ ts. then_read (read ts) (λ a rest. and_more a (several goes next read (next s a) rest))) (λ ts. Ok ([], ts)) ts (x.looks s) e
            (said_outcome (gives []) ts (none L) (none W) ((gives_exact []).outcome ts))
          where
            none : (M : S → A → Tokens → Type 0) (xs : List A) (u : Tokens) → Nothing [] xs u → Listed M MayEnd next s xs u
            none M xs u n = subst (λ l. Listed M MayEnd next s l u) (sym n.same) (n.empty, x.ends s ts e)

-- ---- the same turns under another state

-- two states go on alike, as long as what is left keeps them alike
pub record Alike {S R A : Type 0} (goes : S → Tokens → Bool) (next : S → A → S) (lasts : R → Tokens → Bool) (after : R → A → R) (read : Tokens → Read Saying A) (Near : S → R → Tokens → Type 0) : Type 0 where
  pub same : (s : S) (r : R) (ts : Tokens) → Near s r ts → goes s ts ≡ lasts r ts
  pub stays : (s : S) (r : R) (ts : Tokens) (a : A) (rest : Tokens) → Near s r ts → read ts ≡ Ok (a, rest) → Near (next s a) (after r a) rest

turns_alike : {S R A : Type 0} (goes : S → Tokens → Bool) (next : S → A → S) (lasts : R → Tokens → Bool) (after : R → A → R) (read : Tokens → Read Saying A) (Near : S → R → Tokens → Type 0)
    → Alike goes next lasts after read Near → (n : ℕ) (s : S) (r : R) (ts : Tokens) → Near s r ts → several_within n goes next read s ts ≡ several_within n lasts after read r ts
turns_alike goes next lasts after read Near x zero s r ts h = refl
turns_alike {S} {R} {A} goes next lasts after read Near x (suc n) s r ts h = choose (turns_alike goes next lasts after read Near x n) (goes s ts) (lasts r ts) (x.same s r ts h)
  where
    Further : Type 0
    Further = (s : S) (r : R) (ts : Tokens) → Near s r ts → several_within n goes next read s ts ≡ several_within n lasts after read r ts

    go : Further → (o : Read Saying A) → read ts ≡ o
        → ◌≡◌ {A = Read Saying (List A)} (then_read o (λ a rest. and_more a (several_within n goes next read (next s a) rest))) (then_read o (λ a rest. and_more a (several_within n lasts after read (after r a) rest)))
    go later (Ok o) e = ap (λ q. and_more o.0 q) (later (next s o.0) (after r o.0) o.1 (x.stays s r ts o.0 o.1 h e))
    go later (Err o) e = refl

    choose : Further → (b c : Bool) → b ≡ c → ◌≡◌ {A = Read Saying (List A)}
        (elim b [ true ↦ then_read (read ts) (λ a rest. and_more a (several_within n goes next read (next s a) rest)) | false ↦ Ok ([], ts) ])
        (elim c [ true ↦ then_read (read ts) (λ a rest. and_more a (several_within n lasts after read (after r a) rest)) | false ↦ Ok ([], ts) ])
    choose later true true e = go later (read ts) refl
    choose later false false e = refl
    choose later true false e = absurd (cc)
    choose later false true e = absurd (cc)

pub several_alike : {S R A : Type 0} (goes : S → Tokens → Bool) (next : S → A → S) (lasts : R → Tokens → Bool) (after : R → A → R) (read : Tokens → Read Saying A) (Near : S → R → Tokens → Type 0)
    → Alike goes next lasts after read Near → (s : S) (r : R) (ts : Tokens) → Near s r ts → several goes next read s ts ≡ several lasts after read r ts
several_alike goes next lasts after read Near x s r ts h = turns_alike goes next lasts after read Near x (suc (length ts)) s r ts h
