-- The front of a text of random words: what stands there otherwise too, but for wide integers without a sign.
use Rattle.std.proofs.Common.{◌≡◌, ◌≢◌, ℕ, zero, suc, ◌^◌, ◌<◌, ◌≤◌, nat_lt, Bool, true, false, ℤ, pos, negsuc, List, [], ◌∷◌, Option, Some, None, length, take, refl, sym, ap, ◌∙◌, arith}
use Rattle.std.specs.Prelude.{if◌then◌else◌, codes, ◌||◌, ◌==◌}
use Rattle.std.specs.List.{list_any, prefix_len}
use Rattle.std.specs.Str.{bytes_eq}
use Rattle.std.proofs.lemmas.Bool.Decides.{nat_tests}
use Rattle.defs_text.specs.Bytes.{is_angle, is_run_byte}
use Rattle.defs_text.specs.Lexing.{Piece, token, fault, bad_byte, open_string, wide_number, float_number, integer, Front, a_blank, a_run, a_mark, a_bar, a_quote, a_comment, no_front, front_at, piece_of, run_of, after_run, run_piece, number_piece, begins_fraction, quoted_piece, inside_piece, quoted_word, documentation, Saying}
use Rattle.defs_text.specs.Quotes.{closing, fault_inside}
use Rattle.defs_text.specs.Runs.{RunKind, an_arrow, opens_set, closes_set, a_sign, a_variable, a_number, a_float, has_angle, a_word, run_kind, is_sign, sign_place, signs, is_variable, inside_of, is_integer, is_float, angles_before, integer_of, fits_integer, begins_digit, number_from}
use Rattle.defs_text.specs.declared.token.LexFault.{LexFault}
use Rattle.defs_text.specs.declared.token.LexFault.TheVariants as refusal
use Rattle.soar_lex.specs.Pieces.{IsFault, piece_at}
use Rattle.defs_run.specs.RandomReading.{fits_random, random_run, random_piece}
use Rattle.random_words.specs.Pieces.{random_at}

-- ---- what is no wide number

fits_more : (n : ℕ) → fits_integer (pos n) ≡ true → nat_lt n (2 ^ 64) ≡ true
fits_more n fits = let small : n < 2 ^ 63 = grind (arith, nat_tests) in grind (arith, nat_tests)

fits_both : (run : List ℕ) (z : ℤ) → fits_integer z ≡ true → fits_random run z ≡ true
fits_both run (negsuc n) fits = fits
fits_both run (pos n) fits = by (begins_digit run)
  where
    by : (t : Bool) → (if t then nat_lt n (2 ^ 64) else fits_integer (pos n)) ≡ true
    by true = fits_more n fits
    by false = fits

-- whatever else stands at the front, it is the same
pub same_unless_wide : (place : ℕ) (text : List ℕ) (piece : Piece) → piece_at place text ≡ piece → piece ≢ fault (wide_number place) → random_at place text ≡ piece
same_unless_wide place [] piece is other = is
same_unless_wide place (b ∷ bytes) piece is other = by_front (front_at b) is
  where
    run : List ℕ
    run = run_of (b ∷ bytes)

    by_fits : (z : ℤ) (t : Bool) → fits_integer z ≡ t → (if t then token (integer z) (length run) else fault (wide_number place)) ≡ piece
        → (if fits_random run z then token (integer z) (length run) else fault (wide_number place)) ≡ piece
    by_fits z true fits is = ap (λ t. if t then token (integer z) (length run) else fault (wide_number place)) (fits_both run z fits) ∙ is
    by_fits z false fits is = absurd (other (sym is))

    by_fraction : (z : ℤ) (t : Bool) → number_piece place (length run) z t ≡ piece
        → (if t then fault (float_number place) else if fits_random run z then token (integer z) (length run) else fault (wide_number place)) ≡ piece
    by_fraction z true is = is
    by_fraction z false is = by_fits z (fits_integer z) refl is

    by_kind : (kind : RunKind) → run_piece place run (after_run (b ∷ bytes)) kind ≡ piece
        → random_run place run (after_run (b ∷ bytes)) kind (run_piece place run (after_run (b ∷ bytes)) kind) ≡ piece
    by_kind (a_number z) is = by_fraction z (begins_fraction (after_run (b ∷ bytes))) is
    by_kind an_arrow is = is
    by_kind opens_set is = is
    by_kind closes_set is = is
    by_kind (a_sign n) is = is
    by_kind (a_variable name) is = is
    by_kind a_float is = is
    by_kind (has_angle n) is = is
    by_kind a_word is = is

    by_front : (front : Front) → piece_of front place b bytes ≡ piece → random_piece front place b bytes ≡ piece
    by_front a_run is = by_kind (run_kind run) is
    by_front a_blank is = is
    by_front a_mark is = is
    by_front a_bar is = is
    by_front a_quote is = is
    by_front a_comment is = is
    by_front no_front is = is

-- ---- a wide number

-- an integer of so many bytes that 64 bits do not hold with a sign
pub record Wide (place : ℕ) (text : List ℕ) : Type 0 where
  pub value : ℤ
  pub kind : run_kind (run_of text) ≡ a_number value
  pub wide : fits_integer value ≡ false
  pub random : random_at place text ≡ (if fits_random (run_of text) value then token (integer value) (length (run_of text)) else fault (wide_number place))

-- no quote is one
quote_is_none : (quote place at : ℕ) (says : List ℕ → Saying) (bytes : List ℕ) → quoted_piece quote place says bytes (closing quote bytes) ≢ fault (wide_number at)
quote_is_none quote place at says bytes = by (closing quote bytes)
  where
    inside : (count : ℕ) (o : Option ℕ) → inside_piece place says count (take count bytes) o ≢ fault (wide_number at)
    inside count (Some bad) is = absurd (cc)
    inside count None is = absurd (cc)

    by : (o : Option ℕ) → quoted_piece quote place says bytes o ≢ fault (wide_number at)
    by None is = absurd (cc)
    by (Some count) is = inside count (fault_inside quote (take count bytes)) is

-- what is told as one is one, and stands where it is told
pub wide_is : (place at : ℕ) (text : List ℕ) → piece_at place text ≡ fault (wide_number at) → (at ≡ place) × Wide place text
wide_is place at [] is = absurd (cc)
wide_is place at (b ∷ bytes) is = by_front (front_at b) refl is
  where
    run : List ℕ
    run = run_of (b ∷ bytes)

    after : List ℕ
    after = after_run (b ∷ bytes)

    told : ℤ → Piece
    told z = if fits_random run z then token (integer z) (length run) else fault (wide_number place)

    by_fits : (z : ℤ) (t : Bool) → fits_integer z ≡ t → run_kind run ≡ a_number z → random_at place (b ∷ bytes) ≡ told z
        → (if t then token (integer z) (length run) else fault (wide_number place)) ≡ fault (wide_number at) → (at ≡ place) × Wide place (b ∷ bytes)
    by_fits z true fits kind random is = absurd (cc)
    by_fits z false fits kind random is = (cc, record { value = z; kind = kind; wide = fits; random = random })

    by_fraction : (z : ℤ) (t : Bool) → run_kind run ≡ a_number z
        → random_at place (b ∷ bytes) ≡ (if t then fault (float_number place) else told z) → number_piece place (length run) z t ≡ fault (wide_number at)
        → (at ≡ place) × Wide place (b ∷ bytes)
    by_fraction z true kind random is = absurd (cc)
    by_fraction z false kind random is = by_fits z (fits_integer z) refl kind random is

    by_kind : (kind : RunKind) → run_kind run ≡ kind → random_at place (b ∷ bytes) ≡ random_run place run after kind (run_piece place run after kind)
        → run_piece place run after kind ≡ fault (wide_number at) → (at ≡ place) × Wide place (b ∷ bytes)
    by_kind (a_number z) kind random is = by_fraction z (begins_fraction after) kind random is
    by_kind an_arrow kind random is = absurd (cc)
    by_kind opens_set kind random is = absurd (cc)
    by_kind closes_set kind random is = absurd (cc)
    by_kind (a_sign n) kind random is = absurd (cc)
    by_kind (a_variable name) kind random is = absurd (cc)
    by_kind a_float kind random is = absurd (cc)
    by_kind (has_angle n) kind random is = absurd (cc)
    by_kind a_word kind random is = absurd (cc)

    by_front : (front : Front) → front_at b ≡ front → piece_of front place b bytes ≡ fault (wide_number at) → (at ≡ place) × Wide place (b ∷ bytes)
    by_front a_run front is = by_kind (run_kind run) refl (ap (λ f. random_piece f place b bytes) front) is
    by_front a_blank front is = absurd (cc)
    by_front a_mark front is = absurd (cc)
    by_front a_bar front is = absurd (quote_is_none 124 place at quoted_word bytes is)
    by_front a_quote front is = absurd (quote_is_none 34 place at documentation bytes is)
    by_front a_comment front is = absurd (cc)
    by_front no_front front is = absurd (cc)

-- ---- its value

-- the value of a run that is a number
value_is : (run : List ℕ) (z : ℤ) → run_kind run ≡ a_number z → z ≡ integer_of run
value_is run z kind =
    by (bytes_eq (codes "-->") run) (bytes_eq (codes "<<") run) (bytes_eq (codes ">>") run) (is_sign run) (is_variable run) (is_integer run) (is_float run) (list_any is_angle run) kind
  where
    by : (arrow opens closes sign variable number float angle : Bool)
        → (if arrow then an_arrow else if opens then opens_set else if closes then closes_set else if sign then a_sign (sign_place signs run)
        else if variable then a_variable (inside_of run) else if number then a_number (integer_of run) else if float then a_float
        else if angle then has_angle (angles_before run) else a_word) ≡ a_number z → z ≡ integer_of run
    by true o c s v n f a is = absurd (cc)
    by false true c s v n f a is = absurd (cc)
    by false false true s v n f a is = absurd (cc)
    by false false false true v n f a is = absurd (cc)
    by false false false false true n f a is = absurd (cc)
    by false false false false false true f a is = cc
    by false false false false false false true a is = absurd (cc)
    by false false false false false false false true is = absurd (cc)
    by false false false false false false false false is = absurd (cc)

-- digits have no sign in front
digits_are : (run : List ℕ) → begins_digit run ≡ true → integer_of run ≡ pos (number_from 0 run)
digits_are [] digits = absurd (cc)
digits_are (b ∷ run) digits = rw (no_sign, no_minus) refl
  where
    no_sign : ((b == 43) || (b == 45)) ≡ false
    no_sign = grind (arith, nat_tests)

    no_minus : (b == 45) ≡ false
    no_minus = grind (arith, nat_tests)

-- where it has no sign, and 64 bits hold it, it is a random word
pub wide_fits : (place : ℕ) (text : List ℕ) (value : ℕ) → Wide place text → begins_digit (run_of text) ≡ true → value ≡ number_from 0 (run_of text) → value < 2 ^ 64
    → random_at place text ≡ token (integer (pos value)) (length (run_of text))
wide_fits place text value w digits is small =
    let whole : w.value ≡ pos value = value_is (run_of text) w.value w.kind ∙ (digits_are (run_of text) digits ∙ ap pos (sym is)) in
    let fits : fits_random (run_of text) (pos value) ≡ true = ap (λ t. if t then nat_lt value (2 ^ 64) else fits_integer (pos value)) digits ∙ grind (arith, nat_tests) in
    w.random ∙ (ap (λ z. if fits_random (run_of text) z then token (integer z) (length (run_of text)) else fault (wide_number place)) whole
    ∙ ap (λ t. if t then token (integer (pos value)) (length (run_of text)) else fault (wide_number place)) fits)

-- else it is as wide as elsewhere
pub wide_stays : (place : ℕ) (text : List ℕ) → Wide place text → (begins_digit (run_of text) ≡ true → 2 ^ 64 ≤ number_from 0 (run_of text))
    → random_at place text ≡ fault (wide_number place)
wide_stays place text w large =
    w.random ∙ ap (λ t. if t then token (integer w.value) (length (run_of text)) else fault (wide_number place)) (no_fit w.value w.wide (value_is (run_of text) w.value w.kind))
  where
    no_fit : (z : ℤ) → fits_integer z ≡ false → z ≡ integer_of (run_of text) → fits_random (run_of text) z ≡ false
    no_fit (negsuc n) wide is = wide
    no_fit (pos n) wide is = by (begins_digit (run_of text)) refl
      where
        by : (t : Bool) → begins_digit (run_of text) ≡ t → (if t then nat_lt n (2 ^ 64) else fits_integer (pos n)) ≡ false
        by false signed = wide
        by true digits =
            let same : pos n ≡ pos (number_from 0 (run_of text)) = is ∙ digits_are (run_of text) digits in
            let value : n ≡ number_from 0 (run_of text) = cc in
            let long : 2 ^ 64 ≤ n = omega (arith, large digits, value) in
            grind (arith, nat_tests)

-- ---- its bytes

-- a text begins with a digit where its run does, which has some byte
pub digits_first : (text : List ℕ) → begins_digit (run_of text) ≡ true → (begins_digit text ≡ true) × (0 < length (run_of text))
digits_first text = by (prefix_len is_run_byte text) text
  where
    by : (n : ℕ) (bytes : List ℕ) → begins_digit (take n bytes) ≡ true → (begins_digit bytes ≡ true) × (0 < length (take n bytes))
    by zero [] digits = absurd (cc)
    by zero (b ∷ bytes) digits = absurd (cc)
    by (suc n) [] digits = absurd (cc)
    by (suc n) (b ∷ bytes) digits = (digits, omega arith)

-- ---- faults

-- a fault other than that of a wide number is the same
pub fault_stays : (place : ℕ) (text : List ℕ) (reason : LexFault) → IsFault (piece_at place text) reason → ((at : ℕ) → reason ≢ refusal.WideNumber at) → IsFault (random_at place text) reason
fault_stays place text (refusal.BadByte at) is other = same_unless_wide place text (fault (bad_byte at)) is (λ e. absurd (cc))
fault_stays place text (refusal.OpenString at) is other = same_unless_wide place text (fault (open_string at)) is (λ e. absurd (cc))
fault_stays place text (refusal.WideNumber at) is other = absurd (other at refl)
fault_stays place text (refusal.FloatNumber at) is other = same_unless_wide place text (fault (float_number at)) is (λ e. absurd (cc))
fault_stays place text refusal.WordsSpent is other = absurd is
fault_stays place text refusal.NoMemory is other = absurd is
