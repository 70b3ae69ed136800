-- A run: a longest piece of run bytes, which is classified as a whole (Soar manual, chapter 3, production syntax; the classes are this engine's).
use Rattle.std.specs.Prelude.{ℕ, ◌+◌, ◌-◌, ◌*◌, ◌^◌, Bool, true, false, ◌&&◌, ◌||◌, ◌==◌, not, ℤ, pos, neg_ℤ, int_lt, int_le, List, [], ◌∷◌, length, take, drop, if◌then◌else◌, codes}
use Rattle.std.specs.List.{prefix_len, list_all, list_any}
use Rattle.std.specs.Str.{bytes_eq}
use Rattle.defs_text.specs.Bytes.{is_digit, is_angle}

-- what a run is
pub data RunKind : Type 0 where
  an_arrow opens_set closes_set : RunKind
  a_sign : ℕ → RunKind  -- its place in the row of signs
  a_variable : List ℕ → RunKind  -- its name
  a_number : ℤ → RunKind
  a_float : RunKind
  has_angle : ℕ → RunKind  -- how many bytes stand before the first `<` or `>`
  a_word : RunKind

-- ---- signs

abbrev pub signs : List (List ℕ)
signs = codes "<" ∷ codes ">" ∷ codes "<=" ∷ codes ">=" ∷ codes "<>" ∷ codes "<=>" ∷ codes "=" ∷ codes "+" ∷ codes "-" ∷ []

abbrev pub is_sign : List ℕ → Bool
is_sign run = list_any (λ sign. bytes_eq sign run) signs

-- how many of the row stand before it
abbrev pub sign_place : List (List ℕ) → List ℕ → ℕ
sign_place [] run = 0
sign_place (sign ∷ row) run = if bytes_eq sign run then 0 else 1 + sign_place row run

-- ---- variables

-- all but the last byte, and the last byte
abbrev pub front_of : List ℕ → List ℕ
front_of bytes = take (length bytes - 1) bytes

abbrev pub ends_with : ℕ → List ℕ → Bool
ends_with byte [] = false
ends_with byte (b ∷ []) = b == byte
ends_with byte (b ∷ c ∷ bytes) = ends_with byte (c ∷ bytes)

abbrev pub begins_with : ℕ → List ℕ → Bool
begins_with byte [] = false
begins_with byte (b ∷ bytes) = b == byte

-- what stands between the first byte and the last
abbrev pub inside_of : List ℕ → List ℕ
inside_of run = front_of (drop 1 run)

abbrev pub is_empty : {A : Type 0} → List A → Bool
is_empty [] = true
is_empty (x ∷ xs) = false

-- `<`, one or more bytes that are no `<` and no `>`, `>`
abbrev pub is_variable : List ℕ → Bool
is_variable run = begins_with 60 run && (ends_with 62 (drop 1 run) && (not (is_empty (inside_of run)) && list_all (λ b. not (is_angle b)) (inside_of run)))

-- ---- numbers

-- without a sign in front
abbrev pub unsigned : List ℕ → List ℕ
unsigned [] = []
unsigned (b ∷ bytes) = if (b == 43) || (b == 45) then bytes else b ∷ bytes

-- what follows the digits in front
abbrev pub after_digits : List ℕ → List ℕ
after_digits bytes = drop (prefix_len is_digit bytes) bytes

abbrev pub begins_digit : List ℕ → Bool
begins_digit [] = false
begins_digit (b ∷ bytes) = is_digit b

abbrev pub are_digits : List ℕ → Bool
are_digits bytes = begins_digit bytes && list_all is_digit bytes

-- an optional sign and one or more digits
abbrev pub is_integer : List ℕ → Bool
is_integer run = are_digits (unsigned run)

-- `e` or `E`, an optional sign and one or more digits
abbrev pub is_exponent : List ℕ → Bool
is_exponent [] = false
is_exponent (b ∷ bytes) = ((b == 101) || (b == 69)) && are_digits (unsigned bytes)

abbrev pub is_float : List ℕ → Bool
is_float run = begins_digit (unsigned run) && is_exponent (after_digits (unsigned run))

-- the number that the digits are in decimal, behind another
abbrev pub number_from : ℕ → List ℕ → ℕ
number_from n [] = n
number_from n (d ∷ digits) = number_from (n * 10 + (d - 48)) digits

abbrev pub integer_of : List ℕ → ℤ
integer_of run = let n = number_from 0 (unsigned run) in if begins_with 45 run then neg_ℤ (pos n) else pos n

-- within 64 bits
abbrev pub fits_integer : ℤ → Bool
fits_integer z = int_le (neg_ℤ (pos (2 ^ 63))) z && int_lt z (pos (2 ^ 63))

-- ---- the classes, of which the first that fits counts

abbrev pub angles_before : List ℕ → ℕ
angles_before run = prefix_len (λ b. not (is_angle b)) run

abbrev pub run_kind : List ℕ → RunKind
run_kind run =
    if bytes_eq (codes "-->") run then an_arrow
    else if bytes_eq (codes "<<") run then opens_set
    else if bytes_eq (codes ">>") run then closes_set
    else if is_sign run then a_sign (sign_place signs run)
    else if is_variable run then a_variable (inside_of run)
    else if is_integer run then a_number (integer_of run)
    else if is_float run then a_float
    else if list_any is_angle run then has_angle (angles_before run)
    else a_word
