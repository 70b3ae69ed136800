-- Reading from the front of a list of tokens: one reader, then the next.
use Rattle.std.specs.Prelude.{ℕ, zero, suc, Bool, true, false, List, [], ◌∷◌, Option, Some, None, Result, Ok, Err, length}

-- why reading stops: no text goes on so, or only one with more brackets than may be open
pub data Stop : Type 0 where
  unexpected deep : Stop

-- what is read and the tokens behind it; or why not, and how many tokens are left, the first of them the one that does not fit
abbrev pub Read : Type 0 → Type 0 → Type 0
Read T A = Result (A × List T) (Stop × ℕ)

abbrev pub then_read : {T A B : Type 0} → Read T A → (A → List T → Read T B) → Read T B
then_read (Ok r) f = f r.0 r.1
then_read (Err e) f = Err e

-- the first token is such a one
abbrev pub begins : {T : Type 0} → (T → Bool) → List T → Bool
begins is [] = false
begins is (t ∷ ts) = is t

abbrev pub rest_of : {T : Type 0} → List T → List T
rest_of [] = []
rest_of (t ∷ ts) = ts

-- one such token
abbrev pub token : {T : Type 0} → (T → Bool) → List T → Read T (record {})
token is ts = elim (begins is ts) [ true ↦ Ok (record {}, rest_of ts) | false ↦ Err (unexpected, length ts) ]

abbrev pub taken_by : {T A : Type 0} → Option A → T → List T → Read T A
taken_by (Some a) t ts = Ok (a, ts)
taken_by None t ts = Err (unexpected, length (t ∷ ts))

-- one token that stands for something
abbrev pub taken : {T A : Type 0} → (T → Option A) → List T → Read T A
taken as_part [] = Err (unexpected, 0)
taken as_part (t ∷ ts) = taken_by (as_part t) t ts

abbrev pub several_within : {T S A : Type 0} → ℕ → (S → List T → Bool) → (S → A → S) → (List T → Read T A) → S → List T → Read T (List A)
several_within zero goes next read s ts = Ok ([], ts)
several_within (suc n) goes next read s ts =
    elim (goes s ts) [
      | true ↦ then_read (read ts) (λ a rest. then_read (several_within n goes next read (next s a) rest) (λ more others. Ok (a ∷ more, others)))
      | false ↦ Ok ([], ts)
    ]

-- As long as it goes on, one more; `goes` sees how far it has come. Each takes a token at least, so that many turns are enough.
abbrev pub several : {T S A : Type 0} → (S → List T → Bool) → (S → A → S) → (List T → Read T A) → S → List T → Read T (List A)
several goes next read s ts = several_within (suc (length ts)) goes next read s ts

-- as many as begin so
abbrev pub many : {T A : Type 0} → (T → Bool) → (List T → Read T A) → List T → Read T (List A)
many first read ts = several {S = record {}} (λ _ ts. begins first ts) (λ s a. s) read (record {}) ts

-- whether such a token stands there
abbrev pub flag : {T : Type 0} → (T → Bool) → List T → Read T Bool
flag is ts = elim (begins is ts) [ true ↦ Ok (true, rest_of ts) | false ↦ Ok (false, ts) ]

-- one, where it begins
abbrev pub optional : {T A : Type 0} → (T → Bool) → (List T → Read T A) → List T → Read T (Option A)
optional first read ts = elim (begins first ts) [ true ↦ then_read (read ts) (λ a rest. Ok (Some a, rest)) | false ↦ Ok (None, ts) ]

-- nothing behind it
abbrev pub at_end : {T A : Type 0} → A → List T → Read T A
at_end a [] = Ok (a, [])
at_end a (t ∷ ts) = Err (unexpected, length (t ∷ ts))
