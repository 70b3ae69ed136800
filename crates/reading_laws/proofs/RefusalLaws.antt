-- Where reading stops is where no production goes on.
use Rattle.std.specs.Prelude.{if◌then◌else◌}
use Rattle.std.proofs.Common.{◌≡◌, refl, sym, ◌∙◌, ap, subst, true, [], ◌∷◌, ◌++◌, ℕ, zero, suc, Option, Some, None, ◌⊎◌, inl, inr, Ok, Err, length, take, ◌+◌, ◌-◌, ◌≤◌, ◌<◌, arith, length-append}
use Rattle.std.proofs.Math.Seq.{take-append_seam, take-append-add, take-length}
use Rattle.defs_text.specs.Lexing.{Saying}
use Rattle.defs_read.specs.Grammar.{Tree}
use Rattle.defs_read.specs.Readers.{Stop, unexpected, deep, Read, then_read, at_end}
use Rattle.defs_read.specs.ReadingTokens.{ReadOf}
use Rattle.defs_read.specs.Spelling.{Tokens, spelling}
use Rattle.reading_laws.specs.Lawful.{Lawful}
use Rattle.reading_laws.specs.Brackets.{brackets, is_opening, is_closing, one_fewer, room}
use Rattle.reading_laws.specs.Refusals.{Begins}
use Rattle.reading_laws.proofs.ReaderLaws.{Viable, Outcome, read_all, read_front, ended, refused, Exact, Joined, Nothing, Took, tree_in, rest_in, then_exact, said_exact, append_assoc, append_nil}
use Rattle.reading_laws.proofs.PieceLaws.{Spelled}
use Rattle.reading_laws.proofs.KeepLaws.{Kept, went, stopped, sunk, Keeps, room_full, then_keeps, end_keeps}
use Rattle.reading_laws.proofs.ProductionLaws.{production_with, TreeOk, production_exact}
use Rattle.reading_laws.proofs.KeptActions.{production_keeps}

-- ---- to the end

abbrev pub Ends : {A : Type 0} → A → Tokens → Type 0
Ends a rest = rest ≡ []

end_exact : {A : Type 0} (a : A) → Exact (Nothing a) (Nothing a) Ends (at_end a)
end_exact {A} a = record {
  outcome = outcome;
  whole = λ b u rest n s. ap (λ l. at_end a (l ++ rest)) n.empty ∙ ap (at_end a) s ∙ ap (λ c. Ok (c, [])) (sym n.same) ∙ ap (λ l. Ok (b, l)) (sym s);
  wide = λ b u n. n;
  sample = (a, [], record { same = refl; empty = refl });
  steps = steps;
}
  where
    steps : (ts : Tokens) (b : A) (rest : Tokens) → at_end a ts ≡ Ok (b, rest) → Took (Nothing a) b ts rest
    steps [] b rest e = let left = ap (λ r. length (rest_in r)) e in (0, omega arith, λ z. record { same = sym (ap (λ r. tree_in r a) e); empty = refl })
    steps (t ∷ ts) b rest e = absurd (cc)

    outcome : (ts : Tokens) → Outcome (Nothing a) (Nothing a) (at_end a) ts
    outcome [] = read_all a (record { same = refl; empty = refl }) refl
    outcome (t ∷ ts) = refused unexpected [] t ts refl (record { tree = a; more = []; spells = record { same = refl; empty = refl } }) (λ d. absurd (cc)) (λ y. refl)

-- a production and nothing behind it, where so many brackets may open inside one
abbrev pub whole_with : ℕ → Tokens → ReadOf Tree
whole_with d ts = then_read (production_with d ts) at_end

abbrev pub Spells : Option ℕ → Tree → Tokens → Type 0
Spells m = Spelled spelling (TreeOk m)

pub whole_exact : (d : ℕ) → Exact (Spells (Some (suc d))) (Spells None) Ends (whole_with d)
whole_exact d =
    said_exact (whole_with d) (there (Some (suc d))) back (there None) (λ t u z. record { spelled = z.spelled; lawful = (z.lawful.0, tt) }) (λ t rest e. e)
    (then_exact (production_with d) at_end (production_exact d) end_exact (λ a b u w rest l m s. tt))
  where
    there : (m : Option ℕ) (t : Tree) (u : Tokens) → Joined (Spells m) Nothing t u → Spells m t u
    there m t u j = subst (λ l. Spells m t l) (sym (j.whole ∙ ap (λ k. j.front ++ k) j.second.empty ∙ append_nil j.front)) (subst (λ x. Spells m x j.front) (sym j.second.same) j.first)

    back : (t : Tree) (u : Tokens) → Spells (Some (suc d)) t u → Joined (Spells (Some (suc d))) Nothing t u
    back t u z = record { part = t; front = u; rest = []; whole = sym (append_nil u); first = z; second = record { same = refl; empty = refl } }

whole_keeps : (d : ℕ) → Keeps (suc (suc d)) (suc (suc d)) (whole_with d) (whole_with (suc d))
whole_keeps d = then_keeps (production_keeps d) (λ a. end_keeps)

-- ---- a larger limit

abbrev IsDeep : ReadOf Tree → Type 0
IsDeep r = (n : ℕ) × (◌≡◌ {A = ReadOf Tree} r (Err (deep, n)))

grows : (d : ℕ) (ts : Tokens) → (whole_with (suc d) ts ≡ whole_with d ts) ⊎ IsDeep (whole_with d ts)
grows d ts = go ((whole_keeps d).each ts)
  where
    go : Kept (suc (suc d)) (suc (suc d)) (whole_with d ts) (whole_with (suc d) ts) ts → (whole_with (suc d) ts ≡ whole_with d ts) ⊎ IsDeep (whole_with d ts)
    go (went a u rest e k f g) = inl (g ∙ sym f)
    go (stopped n u v e k f g) = inl (g ∙ sym f)
    go (sunk u t v e k o f) = inr (length (t ∷ v), f)

grows_on : (k d : ℕ) (ts : Tokens) → (whole_with (k + d) ts ≡ whole_with d ts) ⊎ IsDeep (whole_with d ts)
grows_on zero d ts = let e : 0 + d ≡ d = omega arith in inl (ap (λ n. whole_with n ts) e)
grows_on (suc k) d ts =
    let e : suc k + d ≡ suc (k + d) = omega arith in
    elim (grows_on k d ts) [
      | inl f ↦ elim (grows (k + d) ts) [ inl g ↦ inl (ap (λ n. whole_with n ts) e ∙ g ∙ f) | inr n ↦ inr (n.0, sym f ∙ n.1) ]
      | inr n ↦ inr n
    ]

kind_of : {A : Type 0} → Read Saying A → Stop
kind_of (Ok r) = unexpected
kind_of (Err e) = e.0

abbrev left_of : {A : Type 0} → Read Saying A → ℕ
left_of (Ok r) = 0
left_of (Err e) = e.1

kinds_differ : deep ≡ unexpected → ⊥
kinds_differ h = cc

-- A tree that a refused text would spell is read at some larger limit.
never : (d n : ℕ) (ts : Tokens) → whole_with d ts ≡ Err (unexpected, n) → (t : Tree) → Lawful t → ts ≡ spelling t → ⊥
unfolding kind_of
never d n ts e t l s = go (grows_on (brackets t) d ts)
  where
    read : whole_with (brackets t + d) ts ≡ Ok (t, [])
    read = ap (whole_with (brackets t + d)) (sym (append_nil ts)) ∙ (whole_exact (brackets t + d)).whole t ts [] (record { spelled = s; lawful = (l, omega arith) }) refl

    go : (whole_with (brackets t + d) ts ≡ whole_with d ts) ⊎ IsDeep (whole_with d ts) → ⊥
    go (inl f) = let g : ◌≡◌ {A = ReadOf Tree} (Ok (t, [])) (Err (unexpected, n)) = sym read ∙ f ∙ e in cc
    go (inr m) = let g : ◌≡◌ {A = ReadOf Tree} (Err (deep, m.0)) (Err (unexpected, n)) = sym m.1 ∙ e in kinds_differ (ap kind_of g)

-- ---- the refusal

front_taken : (ts u v : Tokens) → ts ≡ u ++ v → take (length ts - length v) ts ≡ u
front_taken ts u v e =
    let long : length ts ≡ length u + length v = ap length e ∙ length-append u v in let at : length ts - length v ≡ length u = omega (arith, long) in
    ap (λ n. take n ts) at ∙ ap (take (length u)) e ∙ take-append_seam u v

one_more_taken : (ts u : Tokens) (t : Saying) (v : Tokens) → ts ≡ u ++ (t ∷ v) → take (suc (length ts - length (t ∷ v))) ts ≡ u ++ (t ∷ [])
one_more_taken ts u t v e =
    let long : length ts ≡ length u + length (t ∷ v) = ap length e ∙ length-append u (t ∷ v) in let at : suc (length ts - length (t ∷ v)) ≡ length u + 1 = omega (arith, long) in
    ap (λ n. take n ts) at ∙ ap (take (length u + 1)) e ∙ take-append-add u (t ∷ v) 1

begins_of : (u : Tokens) → Viable (Spells None) u → Begins u
begins_of u v = record { tree = v.tree; more = v.more; spelled = sym v.spells.spelled; lawful = v.spells.lawful.0 }

-- what is known of the tokens that were read before reading stopped
pub record Shallow (d : ℕ) (ts : Tokens) (why : Stop) (left : ℕ) : Type 0 where
  pub before : (n : ℕ) × (room (suc (suc d)) (take (length ts - left) ts) ≡ Some n)
  pub with_next : why ≡ deep → room (suc (suc d)) (take (suc (length ts - left)) ts) ≡ None

pub shallow : (d : ℕ) (ts : Tokens) (why : Stop) (left : ℕ) → whole_with d ts ≡ Err (why, left) → Shallow d ts why left
unfolding kind_of
shallow d ts why left e = go ((whole_keeps d).each ts)
  where
    no_room : (t : Saying) → is_opening t ≡ true → room 0 (t ∷ []) ≡ None
    no_room t o = ap (λ b. elim (if b then one_fewer 0 else (if is_closing t then Some 1 else Some 0)) as (λ _. Option ℕ) [ Some m ↦ Some m | None ↦ None ]) o

    go : Kept (suc (suc d)) (suc (suc d)) (whole_with d ts) (whole_with (suc d) ts) ts → Shallow d ts why left
    go (went a u rest h k f g) = let c : ◌≡◌ {A = ReadOf Tree} (Ok (a, rest)) (Err (why, left)) = sym f ∙ e in absurd (cc)
    go (stopped n u v h k f g) =
        let c : ◌≡◌ {A = ReadOf Tree} (Err (unexpected, length v)) (Err (why, left)) = sym f ∙ e in let same : length v ≡ left = ap left_of c in
        subst (λ l. Shallow d ts why l) same (record { before = (n, ap (room (suc (suc d))) (front_taken ts u v h) ∙ k); with_next = λ i. absurd (kinds_differ (sym i ∙ sym (ap kind_of c))) })
    go (sunk u t v h k o f) =
        let c : ◌≡◌ {A = ReadOf Tree} (Err (deep, length (t ∷ v))) (Err (why, left)) = sym f ∙ e in let same : length (t ∷ v) ≡ left = ap left_of c in
        subst (λ l. Shallow d ts why l) same
        (record { before = (0, ap (room (suc (suc d))) (front_taken ts u (t ∷ v) h) ∙ k); with_next = λ i. ap (room (suc (suc d))) (one_more_taken ts u t v h) ∙ room_full (suc (suc d)) 0 u (t ∷ []) k (no_room t o) })

-- what is known of the productions that begin so
pub record First (d : ℕ) (ts : Tokens) (why : Stop) (left : ℕ) : Type 0 where
  pub fewer : left ≤ length ts
  pub begun : Begins (take (length ts - left) ts)
  pub no_further : why ≡ unexpected → length ts - left < length ts → Begins (take (suc (length ts - left)) ts) → ⊥
  pub not_whole : why ≡ unexpected → length ts - left ≡ length ts → (tree : Tree) → Lawful tree → spelling tree ≡ ts → ⊥
  pub goes_on : why ≡ deep → (length ts - left < length ts) × Begins (take (suc (length ts - left)) ts)
  pub none_within : why ≡ deep → (b : Begins (take (suc (length ts - left)) ts)) → brackets b.tree ≤ suc d → ⊥

pub first_refused : (d : ℕ) (ts : Tokens) (why : Stop) (left : ℕ) → whole_with d ts ≡ Err (why, left) → First d ts why left
unfolding kind_of
first_refused d ts why left e = go ((whole_exact d).outcome ts)
  where
    go : Outcome (Spells (Some (suc d))) (Spells None) (whole_with d) ts → First d ts why left
    go (read_all a l f) = let c : ◌≡◌ {A = ReadOf Tree} (Ok (a, [])) (Err (why, left)) = sym f ∙ e in absurd (cc)
    go (read_front a u t v q l keep) = let c : ◌≡◌ {A = ReadOf Tree} (Ok (a, t ∷ v)) (Err (why, left)) = sym (keep v) ∙ ap (whole_with d) (sym q) ∙ e in absurd (cc)
    go (ended via f) = subst (λ l. First d ts why l) none (record {
      fewer = omega arith;
      begun = subst Begins (sym all) (begins_of ts via);
      no_further = λ i k b. absurd (omega arith);
      not_whole = λ i k t l s. never d 0 ts f t l (sym s);
      goes_on = λ i. absurd (kinds_differ (sym i ∙ sym (ap kind_of c)));
      none_within = λ i b w. kinds_differ (sym i ∙ sym (ap kind_of c));
    })
      where
        c : ◌≡◌ {A = ReadOf Tree} (Err (unexpected, 0)) (Err (why, left))
        c = sym f ∙ e

        none : 0 ≡ left
        none = ap left_of c

        all : take (length ts - 0) ts ≡ ts
        all = let same : length ts - 0 ≡ length ts = omega arith in ap (λ n. take n ts) same ∙ take-length ts
    go (refused k u t v q via further keep) = subst (λ l. First d ts why l) same (record {
      fewer = omega (arith, long);
      begun = subst Begins (sym (front_taken ts u (t ∷ v) q)) (begins_of u via);
      no_further = λ i less b. no_more i (subst Begins (one_more_taken ts u t v q) b);
      not_whole = λ i k t l s. absurd (omega (arith, long));
      goes_on = λ i. (omega (arith, long), subst Begins (sym (one_more_taken ts u t v q)) (begins_of (u ++ (t ∷ [])) (further (ap kind_of c ∙ i))));
      none_within = λ i b w. too_many b.tree b.more b.lawful w (b.spelled ∙ ap (λ l. l ++ b.more) (one_more_taken ts u t v q) ∙ append_assoc u (t ∷ []) b.more);
    })
      where
        c : ◌≡◌ {A = ReadOf Tree} (Err (k, length (t ∷ v))) (Err (why, left))
        c = sym (keep v) ∙ ap (whole_with d) (sym q) ∙ e

        same : length (t ∷ v) ≡ left
        same = ap left_of c

        long : length ts ≡ length u + length (t ∷ v)
        long = ap length q ∙ length-append u (t ∷ v)

        no_more : why ≡ unexpected → Begins (u ++ (t ∷ [])) → ⊥
        no_more i b = never d (length (t ∷ b.more)) (u ++ (t ∷ b.more)) (keep b.more ∙ ap (λ w. Err (w, length (t ∷ b.more))) (ap kind_of c ∙ i)) b.tree b.lawful (sym (append_assoc u (t ∷ []) b.more) ∙ sym b.spelled)

        too_many : (tree : Tree) (more : Tokens) → Lawful tree → brackets tree ≤ suc d → spelling tree ≡ u ++ (t ∷ more) → ⊥
        too_many tree more l w s =
            let read = (whole_exact d).whole tree (u ++ (t ∷ more)) [] (record { spelled = sym s; lawful = (l, w) }) refl in
            let f : ◌≡◌ {A = ReadOf Tree} (Ok (tree, [])) (Err (k, length (t ∷ more))) = sym read ∙ ap (whole_with d) (append_nil (u ++ (t ∷ more))) ∙ keep more in cc
