-- What reading does with brackets, and that a larger limit changes nothing where none was met.
use Rattle.std.proofs.Common.{◌≡◌, refl, sym, ◌∙◌, ap, true, false, [], ◌∷◌, ◌++◌, ℕ, zero, suc, Bool, Option, Some, None, Ok, Err, length}
use Rattle.defs_text.specs.Lexing.{Saying}
use Rattle.defs_read.specs.Readers.{unexpected, deep, Read, then_read, begins, token, taken, taken_by, several_within, several, many, flag, optional, at_end}
use Rattle.defs_read.specs.Spelling.{Tokens}
use Rattle.reading_laws.specs.Brackets.{is_opening, room_behind, room}
use Rattle.reading_laws.proofs.ReaderLaws.{append_assoc}

-- ---- room for brackets

-- what is left behind more tokens
abbrev room_on : Option ℕ → Tokens → Option ℕ
room_on (Some n) v = room n v
room_on None v = None

room_append : (n : ℕ) (u v : Tokens) → room n (u ++ v) ≡ room_on (room n u) v
room_append n [] v = refl
room_append n (t ∷ u) v = go (room_behind n t) (λ m. room_append m u v)
  where
    go : (o : Option ℕ) → ((m : ℕ) → room m (u ++ v) ≡ room_on (room m u) v) → elim o as (λ _. Option ℕ) [ Some m ↦ room m (u ++ v) | None ↦ None ] ≡ room_on (elim o as (λ _. Option ℕ) [ Some m ↦ room m u | None ↦ None ]) v
    go (Some m) later = later m
    go None later = refl

room_then : (d e f : ℕ) (u v : Tokens) → room d u ≡ Some e → room e v ≡ Some f → room d (u ++ v) ≡ Some f
room_then d e f u v h k = room_append d u v ∙ ap (λ o. room_on o v) h ∙ k

pub room_full : (d e : ℕ) (u v : Tokens) → room d u ≡ Some e → room e v ≡ None → room d (u ++ v) ≡ None
room_full d e u v h k = room_append d u v ∙ ap (λ o. room_on o v) h ∙ k

-- ---- what is kept

-- Of one reading and another with a larger limit: where d more brackets may be open, e may be behind what is read.
-- What does not fit is a token that no bracket stands in front of; or a bracket that opens where none may.
pub data Kept {A : Type 0} (d e : ℕ) (r s : Read Saying A) (ts : Tokens) : Type 0 where
  went : (a : A) (u rest : Tokens) → ts ≡ u ++ rest → room d u ≡ Some e → r ≡ Ok (a, rest) → s ≡ Ok (a, rest) → Kept d e r s ts
  stopped : (n : ℕ) (u v : Tokens) → ts ≡ u ++ v → room d u ≡ Some n → r ≡ Err (unexpected, length v) → s ≡ Err (unexpected, length v) → Kept d e r s ts
  sunk : (u : Tokens) (t : Saying) (v : Tokens) → ts ≡ u ++ (t ∷ v) → room d u ≡ Some 0 → is_opening t ≡ true → r ≡ Err (deep, length (t ∷ v)) → Kept d e r s ts

pub record Keeps {A : Type 0} (d e : ℕ) (p q : Tokens → Read Saying A) : Type 0 where
  pub each : (ts : Tokens) → Kept d e (p ts) (q ts) ts

-- the same of equal readings
kept_same : {A : Type 0} {d e : ℕ} (r s x y : Read Saying A) (ts : Tokens) → x ≡ r → y ≡ s → Kept d e r s ts → Kept d e x y ts
kept_same r s x y ts f g (went a u rest h k i j) = went a u rest h k (f ∙ i) (g ∙ j)
kept_same r s x y ts f g (stopped n u v h k i j) = stopped n u v h k (f ∙ i) (g ∙ j)
kept_same r s x y ts f g (sunk u t v h k o i) = sunk u t v h k o (f ∙ i)

-- the same behind other tokens
kept_after : {A : Type 0} {d e f : ℕ} (r s : Read Saying A) (w rest ts : Tokens) → ts ≡ w ++ rest → room d w ≡ Some e → Kept e f r s rest → Kept d f r s ts
kept_after {d} {e} {f} r s w rest ts g h (went a u left i k m n) = went a (w ++ u) left (g ∙ ap (λ l. w ++ l) i ∙ sym (append_assoc w u left)) (room_then d e f w u h k) m n
kept_after {d} {e} {f} r s w rest ts g h (stopped c u v i k m n) = stopped c (w ++ u) v (g ∙ ap (λ l. w ++ l) i ∙ sym (append_assoc w u v)) (room_then d e c w u h k) m n
kept_after {d} {e} {f} r s w rest ts g h (sunk u t v i k o m) = sunk (w ++ u) t v (g ∙ ap (λ l. w ++ l) i ∙ sym (append_assoc w u (t ∷ v))) (room_then d e 0 w u h k) o m

-- ---- the ways in which readers are put together

pub gives_keeps : {A : Type 0} {d : ℕ} {a : A} → Keeps d d (λ ts. Ok (a, ts)) (λ ts. Ok (a, ts))
gives_keeps {A} {d} {a} = record { each = λ ts. went a [] ts refl refl refl refl }

pub then_keeps : {A B : Type 0} {d e f : ℕ} {p q : Tokens → Read Saying A} {g h : A → Tokens → Read Saying B} → Keeps d e p q → ((a : A) → Keeps e f (g a) (h a)) → Keeps d f (λ ts. then_read (p ts) g) (λ ts. then_read (q ts) h)
then_keeps {A} {B} {d} {e} {f} {p} {q} {g} {h} x y = record { each = λ ts. go ts (x.each ts) }
  where
    go : (ts : Tokens) → Kept d e (p ts) (q ts) ts → Kept d f (then_read (p ts) g) (then_read (q ts) h) ts
    go ts (went a u rest i k m n) = kept_same (g a rest) (h a rest) (then_read (p ts) g) (then_read (q ts) h) ts (ap (λ r. then_read r g) m) (ap (λ r. then_read r h) n) (kept_after (g a rest) (h a rest) u rest ts i k ((y a).each rest))
    go ts (stopped c u v i k m n) = stopped c u v i k (ap (λ r. then_read r g) m) (ap (λ r. then_read r h) n)
    go ts (sunk u t v i k o m) = sunk u t v i k o (ap (λ r. then_read r g) m)

pub choice_keeps : {A : Type 0} {d e : ℕ} {p q f g : Tokens → Read Saying A} (test : Tokens → Bool) → Keeps d e p q → Keeps d e f g
    → Keeps d e (λ ts. elim (test ts) [ true ↦ p ts | false ↦ f ts ]) (λ ts. elim (test ts) [ true ↦ q ts | false ↦ g ts ])
choice_keeps {A} {d} {e} {p} {q} {f} {g} test x y = record { each = λ ts. go ts (test ts) }
  where
    go : (ts : Tokens) (b : Bool) → Kept d e (elim b as (λ _. Read Saying A) [ true ↦ p ts | false ↦ f ts ]) (elim b as (λ _. Read Saying A) [ true ↦ q ts | false ↦ g ts ]) ts
    go ts true = x.each ts
    go ts false = y.each ts

-- where no more brackets may open
pub sink_keeps : {A : Type 0} {is : Saying → Bool} {f g h : Tokens → Read Saying A} → ((t : Saying) → is t ≡ true → is_opening t ≡ true) → Keeps 0 0 f h
    → Keeps 0 0 (λ ts. elim (begins is ts) [ true ↦ Err (deep, length ts) | false ↦ f ts ]) (λ ts. elim (begins is ts) [ true ↦ g ts | false ↦ h ts ])
sink_keeps {A} {is} {f} {g} {h} opens y = record { each = each }
  where
    each : (ts : Tokens) → Kept 0 0 (elim (begins is ts) as (λ _. Read Saying A) [ true ↦ Err (deep, length ts) | false ↦ f ts ]) (elim (begins is ts) as (λ _. Read Saying A) [ true ↦ g ts | false ↦ h ts ]) ts
    each [] = y.each []
    each (t ∷ ts) = go (is t) refl
      where
        go : (b : Bool) → is t ≡ b → Kept 0 0 (elim b as (λ _. Read Saying A) [ true ↦ Err (deep, length (t ∷ ts)) | false ↦ f (t ∷ ts) ]) (elim b as (λ _. Read Saying A) [ true ↦ g (t ∷ ts) | false ↦ h (t ∷ ts) ]) (t ∷ ts)
        go true e = sunk [] t ts refl refl (opens t e) refl
        go false e = y.each (t ∷ ts)

-- ---- tokens

-- such a token opens, closes or neither
pub record Turns (is : Saying → Bool) (d e : ℕ) : Type 0 where
  pub one : (t : Saying) → is t ≡ true → room d (t ∷ []) ≡ Some e

pub token_keeps : {d e : ℕ} {is : Saying → Bool} → Turns is d e → Keeps d e (token is) (token is)
token_keeps {d} {e} {is} x = record { each = each }
  where
    each : (ts : Tokens) → Kept d e (token is ts) (token is ts) ts
    each [] = stopped d [] [] refl refl refl refl
    each (t ∷ ts) = go (is t) refl
      where
        go : (b : Bool) → is t ≡ b → Kept d e (elim b as (λ _. Read Saying (record {})) [ true ↦ Ok (record {}, ts) | false ↦ Err (unexpected, length (t ∷ ts)) ]) (elim b as (λ _. Read Saying (record {})) [ true ↦ Ok (record {}, ts) | false ↦ Err (unexpected, length (t ∷ ts)) ]) (t ∷ ts)
        go true f = went (record {}) (t ∷ []) ts refl (x.one t f) refl refl
        go false f = stopped d [] (t ∷ ts) refl refl refl refl

pub flag_keeps : {d : ℕ} {is : Saying → Bool} → Turns is d d → Keeps d d (flag is) (flag is)
flag_keeps {d} {is} x = record { each = each }
  where
    each : (ts : Tokens) → Kept d d (flag is ts) (flag is ts) ts
    each [] = went false [] [] refl refl refl refl
    each (t ∷ ts) = go (is t) refl
      where
        go : (b : Bool) → is t ≡ b → Kept d d (elim b as (λ _. Read Saying Bool) [ true ↦ Ok (true, ts) | false ↦ Ok (false, t ∷ ts) ]) (elim b as (λ _. Read Saying Bool) [ true ↦ Ok (true, ts) | false ↦ Ok (false, t ∷ ts) ]) (t ∷ ts)
        go true f = went true (t ∷ []) ts refl (x.one t f) refl refl
        go false f = went false [] (t ∷ ts) refl refl refl refl

-- a token that stands for something is no bracket
pub record Neutral {A : Type 0} (as_part : Saying → Option A) (d : ℕ) : Type 0 where
  pub one : (t : Saying) (a : A) → as_part t ≡ Some a → room d (t ∷ []) ≡ Some d

pub taken_keeps : {A : Type 0} {d : ℕ} {as_part : Saying → Option A} → Neutral as_part d → Keeps d d (taken as_part) (taken as_part)
taken_keeps {A} {d} {as_part} x = record { each = each }
  where
    each : (ts : Tokens) → Kept d d (taken as_part ts) (taken as_part ts) ts
    each [] = stopped d [] [] refl refl refl refl
    each (t ∷ ts) = go (as_part t) refl
      where
        go : (o : Option A) → as_part t ≡ o → Kept d d (taken_by o t ts) (taken_by o t ts) (t ∷ ts)
        go (Some a) f = went a (t ∷ []) ts refl (x.one t a f) refl refl
        go None f = stopped d [] (t ∷ ts) refl refl refl refl

-- ---- several, and what may be there

within_keeps : {S A : Type 0} {d : ℕ} (goes : S → Tokens → Bool) (next : S → A → S) (p q : Tokens → Read Saying A) → Keeps d d p q → (n : ℕ) (s : S) → Keeps d d (several_within n goes next p s) (several_within n goes next q s)
within_keeps goes next p q x zero s = gives_keeps
within_keeps goes next p q x (suc n) s = choice_keeps (goes s) (then_keeps x (λ a. then_keeps (within_keeps goes next p q x n (next s a)) (λ more. gives_keeps))) gives_keeps

pub several_keeps : {S A : Type 0} {d : ℕ} {p q : Tokens → Read Saying A} (goes : S → Tokens → Bool) (next : S → A → S) (s : S) → Keeps d d p q → Keeps d d (several goes next p s) (several goes next q s)
several_keeps {S} {A} {d} {p} {q} goes next s x = record { each = λ ts. (within_keeps goes next p q x (suc (length ts)) s).each ts }

pub many_keeps : {A : Type 0} {d : ℕ} {first : Saying → Bool} {p q : Tokens → Read Saying A} → Keeps d d p q → Keeps d d (many first p) (many first q)
many_keeps {A} {d} {first} {p} {q} x = record { each = λ ts. (within_keeps {S = record {}} (λ _ ts. begins first ts) (λ s a. s) p q x (suc (length ts)) (record {})).each ts }

pub optional_keeps : {A : Type 0} {d : ℕ} {first : Saying → Bool} {p q : Tokens → Read Saying A} → Keeps d d p q → Keeps d d (optional first p) (optional first q)
optional_keeps {A} {d} {first} x = choice_keeps (begins first) (then_keeps x (λ a. gives_keeps)) gives_keeps

pub end_keeps : {A : Type 0} {d : ℕ} {a : A} → Keeps d d (at_end a) (at_end a)
end_keeps {A} {d} {a} = record { each = each }
  where
    each : (ts : Tokens) → Kept d d (at_end a ts) (at_end a ts) ts
    each [] = went a [] [] refl refl refl refl
    each (t ∷ ts) = stopped d [] (t ∷ ts) refl refl refl refl
