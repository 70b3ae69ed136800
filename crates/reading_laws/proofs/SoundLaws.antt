-- The tokens of a text are sound.
use Rattle.std.specs.Prelude.{codes, if◌then◌else◌, take, IsUtf8, nat_lt}
use Rattle.std.proofs.Common.{◌≡◌, refl, sym, ◌∙◌, ap, subst, true, false, [], ◌∷◌, ◌++◌, List, ℕ, zero, suc, Bool, ◌&&◌, ◌==◌, ◌+◌, ◌-◌, ◌<◌, ◌≤◌, Option, Some, None, length, cond, not, arith}
use Rattle.std.specs.List.{prefix_len, list_all, list_any}
use Rattle.std.specs.Str.{bytes_eq, is_utf8}
use Rattle.std.specs.Str.Lossy.{valid_len_up_to, utf8_valid_len}
use Rattle.std.proofs.lemmas.Bool.Decides.{nat_tests}
use Rattle.std.proofs.lemmas.Str.{IsUtf8-nil, IsUtf8-from_is_utf8}
use Rattle.defs_text.specs.Bytes.{is_run_byte, is_angle}
use Rattle.defs_text.specs.Runs.{RunKind, an_arrow, opens_set, closes_set, a_sign, a_variable, a_number, a_float, has_angle, a_word, is_sign, sign_place, signs, is_variable, front_of, ends_with, is_empty, inside_of, is_integer, integer_of, is_float, angles_before, run_kind, fits_integer}
use Rattle.defs_text.specs.Quotes.{closing, meant, bad_escape, no_utf8, lesser, fault_inside}
use Rattle.defs_text.specs.Lexing.{Saying, integer, documentation, Piece, token, nothing, fault, Front, a_blank, a_run, a_mark, a_bar, a_quote, a_comment, no_front, begins_fraction, number_piece, run_piece, run_of, after_run, quoted_word, inside_piece, quoted_piece, front_at, piece_of, with_token, lexed_from, lexed, Lexed, wide_number}
use Rattle.reading_laws.specs.Printable.{IsName}
use Rattle.reading_laws.specs.Sound.{IsSound, AreSound}
use Rattle.reading_laws.specs.WayBack.{tokens_in}
use Rattle.reading_laws.proofs.MeantLaws.{meant_is_text}
use Rattle.reading_laws.proofs.QuoteLaws.{ascii_then}
use Rattle.reading_laws.proofs.TextLaws.{both}

-- ---- runs

run_byte_small : (b : ℕ) → is_run_byte b ≡ true → b < 128
run_byte_small b e = grind (arith, nat_tests)

pub run_is_utf8 : (run : List ℕ) → list_all is_run_byte run ≡ true → IsUtf8 run
run_is_utf8 [] e = IsUtf8-nil
run_is_utf8 (b ∷ run) e = let r = both (is_run_byte b) (list_all is_run_byte run) e in ascii_then b run (run_byte_small b r.0) (run_is_utf8 run r.1)

run_bytes : (bytes : List ℕ) → list_all is_run_byte (run_of bytes) ≡ true
run_bytes [] = refl
run_bytes (b ∷ bytes) = go (is_run_byte b) refl (run_bytes bytes)
  where
    go : (t : Bool) → is_run_byte b ≡ t → list_all is_run_byte (run_of bytes) ≡ true → list_all is_run_byte (take (cond t (1 + prefix_len is_run_byte bytes) 0) (b ∷ bytes)) ≡ true
    go true e later =
        ap (λ n. list_all is_run_byte (take n (b ∷ bytes))) (let f : 1 + prefix_len is_run_byte bytes ≡ suc (prefix_len is_run_byte bytes) = omega arith in f)
        ∙ ap (λ t. t && list_all is_run_byte (run_of bytes)) e ∙ later
    go false e later = refl

-- a run is a variable only between `<` and `>`
variable_only : (run name : List ℕ) → run_kind run ≡ a_variable name → (is_variable run ≡ true) × (inside_of run ≡ name)
variable_only run name e = first (bytes_eq (codes "-->") run) e
  where
    name_in : RunKind → List ℕ
    name_in (a_variable other) = other
    name_in other = []

    last : (b c d : Bool) → (if b then a_number (integer_of run) else (if c then a_float else (if d then has_angle (angles_before run) else a_word))) ≡ a_variable name → ⊥
    last true c d h = absurd (cc)
    last false true d h = absurd (cc)
    last false false true h = absurd (cc)
    last false false false h = absurd (cc)

    later : RunKind
    later = if is_integer run then a_number (integer_of run) else (if is_float run then a_float else (if list_any is_angle run then has_angle (angles_before run) else a_word))

    fifth : (b : Bool) → is_variable run ≡ b → (if b then a_variable (inside_of run) else later) ≡ a_variable name → (is_variable run ≡ true) × (inside_of run ≡ name)
    fifth true f h = (f, cc)
    fifth false f h = absurd (last (is_integer run) (is_float run) (list_any is_angle run) h)

    fourth : (b : Bool) → (if b then a_sign (sign_place signs run) else (if is_variable run then a_variable (inside_of run) else later)) ≡ a_variable name → (is_variable run ≡ true) × (inside_of run ≡ name)
    fourth true h = absurd (cc)
    fourth false h = fifth (is_variable run) refl h

    third : (b : Bool) → (if b then closes_set else (if is_sign run then a_sign (sign_place signs run) else (if is_variable run then a_variable (inside_of run) else later))) ≡ a_variable name → (is_variable run ≡ true) × (inside_of run ≡ name)
    third true h = absurd (cc)
    third false h = fourth (is_sign run) h

    second : (b : Bool) → (if b then opens_set else (if bytes_eq (codes ">>") run then closes_set else (if is_sign run then a_sign (sign_place signs run) else (if is_variable run then a_variable (inside_of run) else later)))) ≡ a_variable name
        → (is_variable run ≡ true) × (inside_of run ≡ name)
    second true h = absurd (cc)
    second false h = third (bytes_eq (codes ">>") run) h

    first : (b : Bool) → (if b then an_arrow else (if bytes_eq (codes "<<") run then opens_set else (if bytes_eq (codes ">>") run then closes_set else (if is_sign run then a_sign (sign_place signs run) else (if is_variable run then a_variable (inside_of run) else later))))) ≡ a_variable name
        → (is_variable run ≡ true) × (inside_of run ≡ name)
    first true h = absurd (cc)
    first false h = second (bytes_eq (codes "<<") run) h

last_byte : (byte : ℕ) (bytes : List ℕ) → ends_with byte bytes ≡ true → bytes ≡ front_of bytes ++ (byte ∷ [])
last_byte byte [] e = absurd (cc)
last_byte byte (b ∷ []) e = let same : b ≡ byte = grind (arith, nat_tests) in ap (λ x. x ∷ []) same
last_byte byte (b ∷ c ∷ bytes) e =
    ap (λ l. b ∷ l) (last_byte byte (c ∷ bytes) e)
    ∙ ap (λ n. take n (b ∷ c ∷ bytes) ++ (byte ∷ [])) (let f : suc (length (c ∷ bytes) - 1) ≡ length (b ∷ c ∷ bytes) - 1 = omega arith in f)

front_bytes : (front : List ℕ) (byte : ℕ) → list_all is_run_byte (front ++ (byte ∷ [])) ≡ true → list_all is_run_byte front ≡ true
front_bytes [] byte e = refl
front_bytes (b ∷ front) byte e =
    let r = both (is_run_byte b) (list_all is_run_byte (front ++ (byte ∷ []))) e in
    ap (λ t. t && list_all is_run_byte front) r.0 ∙ front_bytes front byte r.1

name_is_sound : (run name : List ℕ) → list_all is_run_byte run ≡ true → run_kind run ≡ a_variable name → IsName name
name_is_sound [] name e k = absurd (cc)
name_is_sound (b ∷ bytes) name e k =
    let v = variable_only (b ∷ bytes) name k in
    let x = both (b == 60) (ends_with 62 bytes && (not (is_empty (inside_of (b ∷ bytes))) && list_all (λ c. not (is_angle c)) (inside_of (b ∷ bytes)))) v.0 in
    let y = both (ends_with 62 bytes) (not (is_empty (inside_of (b ∷ bytes))) && list_all (λ c. not (is_angle c)) (inside_of (b ∷ bytes))) x.1 in
    let rest : bytes ≡ name ++ (62 ∷ []) = last_byte 62 bytes y.0 ∙ ap (λ l. l ++ (62 ∷ [])) v.1 in
    let head : b ≡ 60 = grind (arith, nat_tests) in
    let whole : b ∷ bytes ≡ 60 ∷ (name ++ (62 ∷ [])) = ap (λ c. c ∷ bytes) head ∙ ap (λ l. 60 ∷ l) rest in
    (front_bytes name 62 (ap (list_all is_run_byte) (sym rest) ∙ (both (is_run_byte b) (list_all is_run_byte bytes) e).1), ap run_kind (sym whole) ∙ k)

-- ---- pieces

abbrev PieceSound : Piece → Type 0
PieceSound (token says count) = IsSound says
PieceSound (nothing count) = Unit {0}
PieceSound (fault e) = Unit {0}

run_sound : (place : ℕ) (run after : List ℕ) (k : RunKind) → list_all is_run_byte run ≡ true → run_kind run ≡ k → PieceSound (run_piece place run after k)
run_sound place run after an_arrow e k = tt
run_sound place run after opens_set e k = tt
run_sound place run after closes_set e k = tt
run_sound place run after (a_sign n) e k = tt
run_sound place run after (a_variable name) e k = name_is_sound run name e k
run_sound place run after (a_number z) e k = number (begins_fraction after)
  where
    fits : (b : Bool) (count : ℕ) → fits_integer z ≡ b → PieceSound (if b then token (integer z) count else fault (wide_number place))
    fits true count f = f
    fits false count f = tt

    number : (b : Bool) → PieceSound (number_piece place (length run) z b)
    number true = tt
    number false = fits (fits_integer z) (length run) refl
run_sound place run after a_float e k = tt
run_sound place run after (has_angle n) e k = tt
run_sound place run after a_word e k = run_is_utf8 run e

valid_within : (bytes : List ℕ) (n : ℕ) → valid_len_up_to bytes n ≤ n
valid_within bytes zero = omega arith
valid_within bytes (suc n) = go (is_utf8 (take (suc n) bytes)) (valid_within bytes n)
  where
    go : (t : Bool) → valid_len_up_to bytes n ≤ n → (if t then suc n else valid_len_up_to bytes n) ≤ suc n
    go true l = omega arith
    go false l = omega arith

nothing_taken : (bytes : List ℕ) → take 0 bytes ≡ []
nothing_taken [] = refl
nothing_taken (b ∷ bytes) = refl

all_taken : (bytes : List ℕ) → take (length bytes) bytes ≡ bytes
all_taken [] = refl
all_taken (b ∷ bytes) = ap (λ l. b ∷ l) (all_taken bytes)

valid_front : (bytes : List ℕ) (n : ℕ) → n ≤ valid_len_up_to bytes n → IsUtf8 (take n bytes)
valid_front bytes zero l = subst IsUtf8 (sym (nothing_taken bytes)) IsUtf8-nil
valid_front bytes (suc n) l = go (is_utf8 (take (suc n) bytes)) refl (valid_within bytes n) l
  where
    go : (t : Bool) → is_utf8 (take (suc n) bytes) ≡ t → valid_len_up_to bytes n ≤ n → suc n ≤ (if t then suc n else valid_len_up_to bytes n) → IsUtf8 (take (suc n) bytes)
    go true e within l = IsUtf8-from_is_utf8 (take (suc n) bytes) e
    go false e within l = absurd (omega arith)

is_valid : (bytes : List ℕ) → length bytes ≤ utf8_valid_len bytes → IsUtf8 bytes
unfolding utf8_valid_len
is_valid bytes l = subst IsUtf8 (all_taken bytes) (valid_front bytes (length bytes) l)

-- bytes without a fault are UTF-8
sound_utf8 : (quote : ℕ) (bytes : List ℕ) → fault_inside quote bytes ≡ None → IsUtf8 bytes
sound_utf8 quote bytes e = go (nat_lt (utf8_valid_len bytes) (length bytes)) refl (second (bad_escape quote bytes) (no_utf8 bytes) e)
  where
    second : (a b : Option ℕ) → lesser a b ≡ None → b ≡ None
    second None b h = h
    second (Some n) None h = absurd (cc)
    second (Some n) (Some m) h = by (nat_lt m n) h
      where
        by : (t : Bool) → (if t then Some m else Some n) ≡ None → Some m ≡ None
        by true h = h
        by false h = absurd (cc)

    go : (t : Bool) → nat_lt (utf8_valid_len bytes) (length bytes) ≡ t → (if t then Some (utf8_valid_len bytes) else None) ≡ None → IsUtf8 bytes
    go true f h = absurd (cc)
    go false f h = is_valid bytes (grind (arith, nat_tests))

quoted_sound : (quote place : ℕ) (says : List ℕ → Saying) (bytes : List ℕ) (o : Option ℕ) → ((text : List ℕ) → IsUtf8 text → IsSound (says text)) → PieceSound (quoted_piece quote place says bytes o)
quoted_sound quote place says bytes None h = tt
quoted_sound quote place says bytes (Some count) h = inside (fault_inside quote (take count bytes)) refl
  where
    inside : (o : Option ℕ) → fault_inside quote (take count bytes) ≡ o → PieceSound (inside_piece place says count (take count bytes) o)
    inside (Some at) e = tt
    inside None e = h (meant (take count bytes)) (meant_is_text (take count bytes) (sound_utf8 quote (take count bytes) e))

piece_sound : (f : Front) (place b : ℕ) (bytes : List ℕ) → PieceSound (piece_of f place b bytes)
piece_sound a_blank place b bytes = tt
piece_sound a_run place b bytes = run_sound place (run_of (b ∷ bytes)) (after_run (b ∷ bytes)) (run_kind (run_of (b ∷ bytes))) (run_bytes (b ∷ bytes)) refl
piece_sound a_mark place b bytes = tt
piece_sound a_bar place b bytes = quoted_sound 124 place quoted_word bytes (closing 124 bytes) (λ text u. u)
piece_sound a_quote place b bytes = quoted_sound 34 place documentation bytes (closing 34 bytes) (λ text u. u)
piece_sound a_comment place b bytes = tt
piece_sound no_front place b bytes = tt

from_sound : (skip place : ℕ) (bytes : List ℕ) → AreSound (tokens_in (lexed_from skip place bytes))
from_sound skip place [] = tt
from_sound (suc skip) place (b ∷ bytes) = from_sound skip (suc place) bytes
from_sound zero place (b ∷ bytes) = go (piece_of (front_at b) place b bytes) (piece_sound (front_at b) place b bytes) (λ skip. from_sound skip (suc place) bytes)
  where
    go : (p : Piece) → PieceSound p → ((skip : ℕ) → AreSound (tokens_in (lexed_from skip (suc place) bytes)))
        → AreSound (tokens_in (elim p as (λ _. Lexed) [
          | token says count ↦ with_token (record { says = says; start = place; end = place + count }) (lexed_from (count - 1) (suc place) bytes)
          | nothing count ↦ lexed_from (count - 1) (suc place) bytes
          | fault e ↦ record { tokens = []; fault = Some e }
        ]))
    go (token says count) h later = (h, later (count - 1))
    go (nothing count) h later = later (count - 1)
    go (fault e) h later = tt

pub texts_are_sound : (text : List ℕ) → AreSound (tokens_in (lexed text))
unfolding lexed
texts_are_sound text = from_sound 0 0 text
