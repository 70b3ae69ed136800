-- The classes of bytes.
use Rattle.std.specs.Prelude.{ℕ, Bool, false, ◌&&◌, ◌||◌, ◌==◌, nat_le, List, [], ◌∷◌, codes}

-- whether the number is one of these
abbrev pub is_among : List ℕ → ℕ → Bool
is_among [] n = false
is_among (m ∷ ms) n = (n == m) || is_among ms n

abbrev pub is_within : ℕ → ℕ → ℕ → Bool
is_within low high b = nat_le low b && nat_le b high

abbrev pub is_digit : ℕ → Bool
is_digit b = is_within 48 57 b

abbrev pub is_capital : ℕ → Bool
is_capital b = is_within 65 90 b

abbrev pub is_small : ℕ → Bool
is_small b = is_within 97 122 b

-- space, tab, carriage return, form feed and newline
abbrev pub is_blank : ℕ → Bool
is_blank b = is_among (32 ∷ 9 ∷ 13 ∷ 12 ∷ 10 ∷ []) b

-- the bytes of words, numbers, variables and signs
abbrev pub is_run_byte : ℕ → Bool
is_run_byte b = is_small b || (is_capital b || (is_digit b || is_among (codes "$%&*+-/:<=>?_") b))

-- the tokens of one byte
abbrev pub is_mark : ℕ → Bool
is_mark b = is_among (codes "(){}^.!~") b

abbrev pub is_angle : ℕ → Bool
is_angle b = (b == 60) || (b == 62)
