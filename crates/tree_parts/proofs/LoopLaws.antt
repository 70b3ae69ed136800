-- The steps of a loop that reads several.
use Rattle.std.proofs.Common.{◌≡◌, refl, sym, ◌∙◌, ap, subst, true, false, ◌&&◌, [], ◌∷◌, ◌++◌, List, ℕ, zero, suc, ◌<◌, Bool, Ok, Err, map, length, arith, append_assoc, append-nil}
use Rattle.std.proofs.lemmas.List.{length-map, map-append}
use Rattle.std.proofs.lemmas.List.Folds.{list_all-append}
use Rattle.soar_sym.specs.Words.{Texts}
use Rattle.defs_text.specs.declared.token.Token.{Token}
use Rattle.defs_read.specs.Readers.{Stop, unexpected, deep, then_read, several_within, several}
use Rattle.defs_read.specs.ReadingTokens.{ReadOf}
use Rattle.defs_read.specs.Spelling.{Tokens}
use Rattle.defs_read.specs.Sayings.{AreTokensKnown, sayings, saying_of}
use Rattle.tree_parts.specs.declared.stop.Stop.{Stop as StopRead}
use Rattle.tree_parts.specs.declared.stop.Stop.TheVariants as stop
use Rattle.tree_parts.specs.Reading.{Stops, IsLater}
use Rattle.tree_parts.specs.Underway.{with_front, Underway}

-- ---- one turn of the definition

-- one turn, where so many may follow
abbrev turn : {S A : Type 0} → (S → Tokens → Bool) → (S → A → S) → (Tokens → ReadOf A) → ℕ → S → Tokens → Bool → ReadOf (List A)
turn goes next read n s ts b =
    elim b [
      | true ↦ then_read (read ts) (λ a rest. then_read (several_within n goes next read (next s a) rest) (λ more others. Ok (a ∷ more, others)))
      | false ↦ Ok ([], ts)
    ]

one_more : {S A : Type 0} (goes : S → Tokens → Bool) (next : S → A → S) (read : Tokens → ReadOf A) (n : ℕ) (front : List A) (s : S) (ts : Tokens) (a : A) (rest : Tokens)
    → goes s ts ≡ true → read ts ≡ Ok (a, rest)
    → with_front (front ++ (a ∷ [])) (several_within n goes next read (next s a) rest) ≡ with_front front (several_within (suc n) goes next read s ts)
one_more {S} {A} goes next read n front s ts a rest e f =
    go (several_within n goes next read (next s a) rest)
    ∙ sym (ap (λ b. with_front front (turn goes next read n s ts b)) e
    ∙ ap (λ (r : ReadOf A). with_front front (then_read r (λ a rest. then_read (several_within n goes next read (next s a) rest) (λ more others. Ok (a ∷ more, others))))) f)
  where
    go : (r : ReadOf (List A)) → with_front (front ++ (a ∷ [])) r ≡ with_front front (then_read r (λ more others. Ok (a ∷ more, others)))
    go (Ok r) = ap (λ l. Ok (l, r.1)) (append_assoc front (a ∷ []) r.0)
    go (Err e) = refl

no_more : {S A : Type 0} (goes : S → Tokens → Bool) (next : S → A → S) (read : Tokens → ReadOf A) (n : ℕ) (front : List A) (s : S) (ts : Tokens)
    → goes s ts ≡ false → with_front front (several_within (suc n) goes next read s ts) ≡ Ok (front, ts)
no_more goes next read n front s ts e =
    ap (λ b. with_front front (turn goes next read n s ts b)) e ∙ ap (λ l. Ok (l, ts)) (append-nil front)

stops_there : {S A : Type 0} (goes : S → Tokens → Bool) (next : S → A → S) (read : Tokens → ReadOf A) (n : ℕ) (front : List A) (s : S) (ts : Tokens) (x : Stop × ℕ)
    → goes s ts ≡ true → read ts ≡ Err x → with_front front (several_within (suc n) goes next read s ts) ≡ Err x
stops_there {S} {A} goes next read n front s ts x e f =
    ap (λ b. with_front front (turn goes next read n s ts b)) e
    ∙ ap (λ (r : ReadOf A). with_front front (then_read r (λ a rest. then_read (several_within n goes next read (next s a) rest) (λ more others. Ok (a ∷ more, others))))) f

-- ---- the loop's steps

pub begun : {V A S : Type 0} {goes : S → Tokens → Bool} {next : S → A → S} {read : Tokens → ReadOf A} {first : S} {view : V → A} {is_known : V → Bool} {words : Texts} {tokens : List Token}
    (items : List V) → items ≡ [] → AreTokensKnown words tokens → Underway goes next read first view is_known words tokens first items tokens
begun {V} {A} {S} {goes} {next} {read} {first} {view} {is_known} {words} {tokens} items e k =
    subst (λ l. Underway goes next read first view is_known words tokens first l tokens) (sym e) (record {
      turns = suc (length (sayings words tokens));
      enough = let h : length (sayings words tokens) ≡ length tokens = length-map tokens (λ t. saying_of words t.kind) in omega arith;
      gives = go (several goes next read first (sayings words tokens));
      known = refl;
      rest_known = k;
      within = omega arith;
    })
  where
    go : (r : ReadOf (List A)) → with_front [] r ≡ r
    go (Ok r) = refl
    go (Err e) = refl

pub pushed : {V A S : Type 0} {goes : S → Tokens → Bool} {next : S → A → S} {read : Tokens → ReadOf A} {first : S} {view : V → A} {is_known : V → Bool} {words : Texts} {tokens : List Token}
    {s : S} {items : List V} {rest : List Token} → Underway goes next read first view is_known words tokens s items rest
    → (all : List V) (v : V) (after : List Token) → all ≡ items ++ (v ∷ []) → goes s (sayings words rest) ≡ true
    → read (sayings words rest) ≡ Ok (view v, sayings words after) → is_known v ≡ true → IsLater words rest after
    → Underway goes next read first view is_known words tokens (next s (view v)) all after
pushed {V} {A} {S} {goes} {next} {read} {first} {view} {is_known} {words} {tokens} {s} {items} {rest} u all v after e g r k later =
    subst (λ l. Underway goes next read first view is_known words tokens (next s (view v)) l after) (sym e) (go u.turns u.enough u.gives)
  where
    go : (n : ℕ) → length rest < n → with_front (map view items) (several_within n goes next read s (sayings words rest)) ≡ several goes next read first (sayings words tokens)
        → Underway goes next read first view is_known words tokens (next s (view v)) (items ++ (v ∷ [])) after
    go zero h d = absurd (omega arith)
    go (suc n) h d = record {
      turns = n;
      enough = let less = later.less in omega arith;
      gives =
          ap (λ l. with_front l (several_within n goes next read (next s (view v)) (sayings words after))) (map-append view items (v ∷ []))
          ∙ one_more goes next read n (map view items) s (sayings words rest) (view v) (sayings words after) g r ∙ d;
      known = list_all-append is_known items (v ∷ []) ∙ ap (λ b. b && (is_known v && true)) u.known ∙ ap (λ b. b && true) k;
      rest_known = later.known;
      within = let less = later.less in let before = u.within in omega arith;
    }

pub ended : {V A S : Type 0} {goes : S → Tokens → Bool} {next : S → A → S} {read : Tokens → ReadOf A} {first : S} {view : V → A} {is_known : V → Bool} {words : Texts} {tokens : List Token}
    {s : S} {items : List V} {rest : List Token} → Underway goes next read first view is_known words tokens s items rest → goes s (sayings words rest) ≡ false
    → several goes next read first (sayings words tokens) ≡ Ok (map view items, sayings words rest)
ended {V} {A} {S} {goes} {next} {read} {first} {view} {is_known} {words} {tokens} {s} {items} {rest} u g = sym u.gives ∙ go u.turns u.enough
  where
    go : (n : ℕ) → length rest < n → with_front (map view items) (several_within n goes next read s (sayings words rest)) ≡ Ok (map view items, sayings words rest)
    go zero h = absurd (omega arith)
    go (suc n) h = no_more goes next read n (map view items) s (sayings words rest) g

pub stopped : {V A S : Type 0} {goes : S → Tokens → Bool} {next : S → A → S} {read : Tokens → ReadOf A} {first : S} {view : V → A} {is_known : V → Bool} {words : Texts} {tokens : List Token}
    {s : S} {items : List V} {rest : List Token} → Underway goes next read first view is_known words tokens s items rest → (x : StopRead) → goes s (sayings words rest) ≡ true
    → Stops x (read (sayings words rest)) → Stops x (several goes next read first (sayings words tokens))
stopped {V} {A} {S} {goes} {next} {read} {first} {view} {is_known} {words} {tokens} {s} {items} {rest} u x g r = cases x r
  where
    go : (n : ℕ) (e : Stop × ℕ) → length rest < n → read (sayings words rest) ≡ Err e → with_front (map view items) (several_within n goes next read s (sayings words rest)) ≡ Err e
    go zero e h r = absurd (omega arith)
    go (suc n) e h r = stops_there goes next read n (map view items) s (sayings words rest) e g r

    cases : (x : StopRead) → Stops x (read (sayings words rest)) → Stops x (several goes next read first (sayings words tokens))
    cases stop.NoMemory r = tt
    cases (stop.Unexpected left) r = sym u.gives ∙ go u.turns (unexpected, left) u.enough r
    cases (stop.Deep left) r = sym u.gives ∙ go u.turns (deep, left) u.enough r
