-- What holds of a reader that is made of exact readers.
use Rattle.std.proofs.Common.{◌≡◌, refl, sym, ◌∙◌, ap, subst, [], ◌∷◌, ◌++◌, List, Ok, Err, length, ℕ, ◌+◌, arith}
use Rattle.defs_text.specs.Lexing.{Saying}
use Rattle.defs_read.specs.Readers.{Stop, unexpected, deep, Read, then_read}
use Rattle.defs_read.specs.Spelling.{Tokens}

-- nothing more is read
abbrev pub gives : {A : Type 0} → A → Tokens → Read Saying A
gives a ts = Ok (a, ts)

-- the tokens begin a spelling
pub record Viable {A : Type 0} (W : A → Tokens → Type 0) (u : Tokens) : Type 0 where
  pub tree : A
  pub more : Tokens
  pub spells : W tree (u ++ more)

pub append_assoc : {X : Type 0} (xs ys zs : List X) → (xs ++ ys) ++ zs ≡ xs ++ (ys ++ zs)
append_assoc [] ys zs = refl
append_assoc (x ∷ xs) ys zs = ap (λ l. x ∷ l) (append_assoc xs ys zs)

pub append_nil : {X : Type 0} (xs : List X) → xs ++ [] ≡ xs
append_nil [] = refl
append_nil (x ∷ xs) = ap (λ l. x ∷ l) (append_nil xs)

nil_is_no_front : (u : Tokens) (t : Saying) (v : Tokens) → [] ≡ u ++ (t ∷ v) → ⊥
nil_is_no_front [] t v e = cc
nil_is_no_front (x ∷ u) t v e = cc

-- ---- what is known of a reading

-- L says which tokens spell a tree, W the same without the limit.
-- A token that is left, or that is refused, was looked at alone: what is behind it changes nothing.
pub data Outcome {A : Type 0} (L W : A → Tokens → Type 0) (p : Tokens → Read Saying A) (ts : Tokens) : Type 0 where
  read_all : (a : A) → L a ts → p ts ≡ Ok (a, []) → Outcome L W p ts
  read_front : (a : A) (u : Tokens) (t : Saying) (v : Tokens) → ts ≡ u ++ (t ∷ v) → L a u → ((y : Tokens) → p (u ++ (t ∷ y)) ≡ Ok (a, t ∷ y)) → Outcome L W p ts
  ended : Viable W ts → p ts ≡ Err (unexpected, 0) → Outcome L W p ts
  refused : (k : Stop) (u : Tokens) (t : Saying) (v : Tokens) → ts ≡ u ++ (t ∷ v) → Viable W u → (k ≡ deep → Viable W (u ++ (t ∷ [])))
      → ((y : Tokens) → p (u ++ (t ∷ y)) ≡ Err (k, length (t ∷ y))) → Outcome L W p ts

-- So many tokens were taken; where none, nothing spells the tree.
abbrev pub Took : {A : Type 0} → (A → Tokens → Type 0) → A → Tokens → Tokens → Type 0
Took W a ts rest = (n : ℕ) × (length ts ≡ n + length rest) × (n ≡ 0 → W a [])

-- A reader is exact: it reads what is spelled, up to what stops it, and of any tokens the outcome is known.
pub record Exact {A : Type 0} (L W : A → Tokens → Type 0) (Stops : A → Tokens → Type 0) (p : Tokens → Read Saying A) : Type 0 where
  pub outcome : (ts : Tokens) → Outcome L W p ts
  pub whole : (a : A) (u rest : Tokens) → L a u → Stops a rest → p (u ++ rest) ≡ Ok (a, rest)
  pub wide : (a : A) (u : Tokens) → L a u → W a u
  pub sample : (a : A) × (u : Tokens) × W a u
  pub steps : (ts : Tokens) (a : A) (rest : Tokens) → p ts ≡ Ok (a, rest) → Took W a ts rest

-- what was read, and what is left
abbrev pub tree_in : {A : Type 0} → Read Saying A → A → A
tree_in (Ok r) a = r.0
tree_in (Err e) a = a

abbrev pub rest_in : {A : Type 0} → Read Saying A → Tokens
rest_in (Ok r) = r.1
rest_in (Err e) = []

-- what is read by two, the first of them gave
pub then_gives : {A B : Type 0} (r : Read Saying A) (f : A → Tokens → Read Saying B) (x : B × Tokens) → then_read r f ≡ Ok x → (o : A × Tokens) × (r ≡ Ok o) × (f o.0 o.1 ≡ Ok x)
then_gives (Ok o) f x e = (o, refl, e)
then_gives (Err o) f x e = absurd (cc)

-- ---- one reader and then another

-- the tokens of two parts
pub record Joined {A B : Type 0} (LA : A → Tokens → Type 0) (LB : A → B → Tokens → Type 0) (b : B) (u : Tokens) : Type 0 where
  pub part : A
  pub front : Tokens
  pub rest : Tokens
  pub whole : u ≡ front ++ rest
  pub first : LA part front
  pub second : LB part b rest

-- what is left keeps what was read before it
front_keeps : {A : Type 0} (p : Tokens → Read Saying A) (a : A) (u : Tokens) (t : Saying) (v w : Tokens) (s : Saying) (x : Tokens)
    → ((y : Tokens) → p (u ++ (t ∷ y)) ≡ Ok (a, t ∷ y)) → t ∷ v ≡ w ++ (s ∷ x) → (y : Tokens) → p ((u ++ w) ++ (s ∷ y)) ≡ Ok (a, w ++ (s ∷ y))
front_keeps p a u t v [] s x keep e y =
    let same : s ≡ t = cc in
    ap (λ l. p (l ++ (s ∷ y))) (append_nil u) ∙ ap (λ c. p (u ++ (c ∷ y))) same ∙ keep y ∙ ap (λ c. Ok (a, c ∷ y)) (sym same)
front_keeps p a u t v (c ∷ w) s x keep e y =
    let same : c ≡ t = cc in
    ap p (append_assoc u (c ∷ w) (s ∷ y)) ∙ ap (λ d. p (u ++ (d ∷ (w ++ (s ∷ y))))) same ∙ keep (w ++ (s ∷ y)) ∙ ap (λ d. Ok (a, d ∷ (w ++ (s ∷ y)))) (sym same)

-- a part that is begun, and a sample of what comes after it
viable_then : {A B : Type 0} {WA : A → Tokens → Type 0} {WB : A → B → Tokens → Type 0} (u : Tokens)
    → ((a : A) → (b : B) × (w : Tokens) × WB a b w) → Viable WA u → Viable (Joined WA WB) u
viable_then u samples v =
    let s = samples v.tree in
    record { tree = s.0; more = v.more ++ s.1; spells = record { part = v.tree; front = u ++ v.more; rest = s.1; whole = sym (append_assoc u v.more s.1); first = v.spells; second = s.2 } }

-- a part that is read, and one that is begun
viable_after : {A B : Type 0} {WA : A → Tokens → Type 0} {WB : A → B → Tokens → Type 0} (a : A) (u w : Tokens) → WA a u → Viable (WB a) w → Viable (Joined WA WB) (u ++ w)
viable_after a u w first v =
    record { tree = v.tree; more = v.more; spells = record { part = a; front = u; rest = w ++ v.more; whole = append_assoc u w v.more; first = first; second = v.spells } }

pub then_outcome : {A B : Type 0} {LA WA : A → Tokens → Type 0} {LB WB : A → B → Tokens → Type 0} (p : Tokens → Read Saying A) (q : A → Tokens → Read Saying B) (ts : Tokens)
    → ((a : A) (u : Tokens) → LA a u → WA a u) → ((a : A) → (b : B) × (w : Tokens) × WB a b w)
    → Outcome LA WA p ts → ((a : A) (u r : Tokens) → LA a u → ts ≡ u ++ r → Outcome (LB a) (WB a) (q a) r)
    → Outcome (Joined LA LB) (Joined WA WB) (λ ts. then_read (p ts) q) ts
then_outcome {LA} {WA} {LB} {WB} p q ts wide samples (ended via f) next = ended (viable_then ts samples via) (ap (λ r. then_read r q) f)
then_outcome {LA} {WA} {LB} {WB} p q ts wide samples (refused k u t v e via further keep) next =
    refused k u t v e (viable_then u samples via) (λ d. viable_then (u ++ (t ∷ [])) samples (further d)) (λ y. ap (λ r. then_read r q) (keep y))
then_outcome {A} {B} {LA} {WA} {LB} {WB} p q ts wide samples (read_all a l f) next = go (next a ts [] l (sym (append_nil ts)))
  where
    go : Outcome (LB a) (WB a) (q a) [] → Outcome (Joined LA LB) (Joined WA WB) (λ ts. then_read (p ts) q) ts
    go (read_all b m g) = read_all b (record { part = a; front = ts; rest = []; whole = sym (append_nil ts); first = l; second = m }) (ap (λ r. then_read r q) f ∙ g)
    go (ended via g) = ended (subst (λ w. Viable (Joined WA WB) w) (append_nil ts) (viable_after a ts [] (wide a ts l) via)) (ap (λ r. then_read r q) f ∙ g)
    go (read_front b u t v e m keep) = absurd (nil_is_no_front u t v e)
    go (refused k u t v e via further keep) = absurd (nil_is_no_front u t v e)
then_outcome {A} {B} {LA} {WA} {LB} {WB} p q ts wide samples (read_front a u t v e l keep) next = go (next a u (t ∷ v) l e)
  where
    go : Outcome (LB a) (WB a) (q a) (t ∷ v) → Outcome (Joined LA LB) (Joined WA WB) (λ ts. then_read (p ts) q) ts
    go (read_all b m g) = read_all b (record { part = a; front = u; rest = t ∷ v; whole = e; first = l; second = m }) (ap (λ x. then_read (p x) q) e ∙ ap (λ r. then_read r q) (keep v) ∙ g)
    go (ended via g) = ended (subst (λ w. Viable (Joined WA WB) w) (sym e) (viable_after a u (t ∷ v) (wide a u l) via)) (ap (λ x. then_read (p x) q) e ∙ ap (λ r. then_read r q) (keep v) ∙ g)
    go (read_front b w s x d m later) =
        read_front b (u ++ w) s x (e ∙ ap (λ r. u ++ r) d ∙ sym (append_assoc u w (s ∷ x))) (record { part = a; front = u; rest = w; whole = refl; first = l; second = m })
        (λ y. ap (λ r. then_read r q) (front_keeps p a u t v w s x keep d y) ∙ later y)
    go (refused k w s x d via further later) =
        refused k (u ++ w) s x (e ∙ ap (λ r. u ++ r) d ∙ sym (append_assoc u w (s ∷ x))) (viable_after a u w (wide a u l) via)
        (λ is_deep. subst (λ z. Viable (Joined WA WB) z) (sym (append_assoc u w (s ∷ []))) (viable_after a u (w ++ (s ∷ [])) (wide a u l) (further is_deep)))
        (λ y. ap (λ r. then_read r q) (front_keeps p a u t v w s x keep d y) ∙ later y)

pub then_exact : {A B : Type 0} {LA WA : A → Tokens → Type 0} {LB WB : A → B → Tokens → Type 0} {SA : A → Tokens → Type 0} {SB : B → Tokens → Type 0} (p : Tokens → Read Saying A) (q : A → Tokens → Read Saying B)
    → Exact LA WA SA p → ((a : A) → Exact (LB a) (WB a) SB (q a)) → ((a : A) (b : B) (u w rest : Tokens) → LA a u → LB a b w → SB b rest → SA a (w ++ rest))
    → Exact (Joined LA LB) (Joined WA WB) SB (λ ts. then_read (p ts) q)
then_exact {A} {B} {LA} {WA} {LB} {WB} {SA} {SB} p q x y follows = record {
  outcome = λ ts. then_outcome p q ts x.wide (λ a. (y a).sample) (x.outcome ts) (λ a u r l e. (y a).outcome r);
  whole = λ b u rest j s.
      ap (λ l. then_read (p (l ++ rest)) q) j.whole ∙ ap (λ l. then_read (p l) q) (append_assoc j.front j.rest rest)
      ∙ ap (λ r. then_read r q) (x.whole j.part j.front (j.rest ++ rest) j.first (follows j.part b j.front j.rest rest j.first j.second s))
      ∙ (y j.part).whole b j.rest rest j.second s;
  wide = λ b u j. record { part = j.part; front = j.front; rest = j.rest; whole = j.whole; first = x.wide j.part j.front j.first; second = (y j.part).wide b j.rest j.second };
  sample = let s = x.sample in let t = (y s.0).sample in
      (t.0, s.1 ++ t.1, record { part = s.0; front = s.1; rest = t.1; whole = refl; first = s.2; second = t.2 });
  steps = λ ts b rest e. steps ts b rest (p ts) refl e;
}
  where
    steps : (ts : Tokens) (b : B) (rest : Tokens) (r : Read Saying A) → p ts ≡ r → then_read r q ≡ Ok (b, rest) → Took (Joined WA WB) b ts rest
    steps ts b rest (Ok r) f e =
        let m = x.steps ts r.0 r.1 f in let k = (y r.0).steps r.1 b rest e in let one = m.1 in let two = k.1 in
        (m.0 + k.0, omega arith, λ z. record { part = r.0; front = []; rest = []; whole = refl; first = m.2 (omega arith); second = k.2 (omega arith) })
    steps ts b rest (Err x) f e = absurd (cc)

-- ---- the same reading, and the same tokens said otherwise

-- another reader that does the same here
pub same_outcome : {A : Type 0} {L W : A → Tokens → Type 0} (p q : Tokens → Read Saying A) (ts : Tokens)
    → q ts ≡ p ts → ((u : Tokens) (t : Saying) (v y : Tokens) → ts ≡ u ++ (t ∷ v) → q (u ++ (t ∷ y)) ≡ p (u ++ (t ∷ y))) → Outcome L W p ts → Outcome L W q ts
same_outcome p q ts e same (read_all a l f) = read_all a l (e ∙ f)
same_outcome p q ts e same (ended via f) = ended via (e ∙ f)
same_outcome p q ts e same (read_front a u t v d l keep) = read_front a u t v d l (λ y. same u t v y d ∙ keep y)
same_outcome p q ts e same (refused k u t v d via further keep) = refused k u t v d via further (λ y. same u t v y d ∙ keep y)

pub widen_viable : {A : Type 0} {W V : A → Tokens → Type 0} (u : Tokens) → ((a : A) (u : Tokens) → W a u → V a u) → Viable W u → Viable V u
widen_viable u f v = record { tree = v.tree; more = v.more; spells = f v.tree (u ++ v.more) v.spells }

pub said_outcome : {A : Type 0} {L W M V : A → Tokens → Type 0} (p : Tokens → Read Saying A) (ts : Tokens)
    → ((a : A) (u : Tokens) → L a u → M a u) → ((a : A) (u : Tokens) → W a u → V a u) → Outcome L W p ts → Outcome M V p ts
said_outcome p ts f g (read_all a l e) = read_all a (f a ts l) e
said_outcome p ts f g (ended via e) = ended (widen_viable ts g via) e
said_outcome p ts f g (read_front a u t v d l keep) = read_front a u t v d (f a u l) keep
said_outcome p ts f g (refused k u t v d via further keep) = refused k u t v d (widen_viable u g via) (λ is_deep. widen_viable (u ++ (t ∷ [])) g (further is_deep)) keep

-- the tokens of a tree, said as a user reads them
pub said_exact : {A : Type 0} {L W M V : A → Tokens → Type 0} {S R : A → Tokens → Type 0} (p : Tokens → Read Saying A)
    → ((a : A) (u : Tokens) → L a u → M a u) → ((a : A) (u : Tokens) → M a u → L a u) → ((a : A) (u : Tokens) → W a u → V a u)
    → ((a : A) (u : Tokens) → M a u → V a u) → ((a : A) (rest : Tokens) → R a rest → S a rest) → Exact L W S p → Exact M V R p
said_exact p f back g wide stops x = record {
  outcome = λ ts. said_outcome p ts f g (x.outcome ts);
  whole = λ a u rest m r. x.whole a u rest (back a u m) (stops a rest r);
  wide = wide;
  sample = (x.sample.0, x.sample.1, g x.sample.0 x.sample.1 x.sample.2);
  steps = λ ts a rest e. let m = x.steps ts a rest e in (m.0, m.1, λ z. g a [] (m.2 z));
}

-- a reader that does the same everywhere
pub equal_exact : {A : Type 0} {L W S : A → Tokens → Type 0} (p q : Tokens → Read Saying A) → ((ts : Tokens) → q ts ≡ p ts) → Exact L W S p → Exact L W S q
equal_exact p q same x = record {
  outcome = λ ts. same_outcome p q ts (same ts) (λ u t v y d. same (u ++ (t ∷ y))) (x.outcome ts);
  whole = λ a u rest l s. same (u ++ rest) ∙ x.whole a u rest l s;
  wide = x.wide;
  sample = x.sample;
  steps = λ ts a rest e. x.steps ts a rest (sym (same ts) ∙ e);
}

-- ---- nothing

pub record Nothing {A : Type 0} (a b : A) (u : Tokens) : Type 0 where
  pub same : b ≡ a
  pub empty : u ≡ []

abbrev pub Always : {A : Type 0} → A → Tokens → Type 0
Always a rest = Unit {0}

pub gives_exact : {A : Type 0} (a : A) → Exact (Nothing a) (Nothing a) Always (gives a)
gives_exact {A} a = record {
  outcome = outcome;
  whole = λ b u rest n s. ap (λ l. gives a (l ++ rest)) n.empty ∙ ap (λ c. Ok (c, rest)) (sym n.same);
  wide = λ b u n. n;
  sample = (a, [], record { same = refl; empty = refl });
  steps = steps;
}
  where
    steps : (ts : Tokens) (b : A) (rest : Tokens) → gives a ts ≡ Ok (b, rest) → Took (Nothing a) b ts rest
    steps ts b rest e = let left = ap (λ r. length (rest_in r)) e in (0, omega arith, λ z. record { same = sym (ap (λ r. tree_in r a) e); empty = refl })

    outcome : (ts : Tokens) → Outcome (Nothing a) (Nothing a) (gives a) ts
    outcome [] = read_all a (record { same = refl; empty = refl }) refl
    outcome (t ∷ ts) = read_front a [] t ts refl (record { same = refl; empty = refl }) (λ y. refl)
