-- Texts in bars and strings in quotes.
use Rattle.std.specs.Prelude.{ℕ, ◌+◌, Bool, true, false, ◌||◌, ◌==◌, nat_lt, List, [], ◌∷◌, length, Option, Some, None, if◌then◌else◌, option_map}
use Rattle.std.specs.Str.Lossy.{utf8_valid_len}

-- How many bytes stand before the closing one, which no backslash takes with it. The flag says that a backslash stands before.
abbrev pub closing_from : ℕ → Bool → List ℕ → Option ℕ
closing_from quote behind [] = None
closing_from quote true (b ∷ bytes) = option_map (λ n. 1 + n) (closing_from quote false bytes)
closing_from quote false (b ∷ bytes) =
    elim (b == quote) [ true ↦ Some 0 | false ↦ option_map (λ n. 1 + n) (closing_from quote (b == 92) bytes) ]

abbrev pub closing : ℕ → List ℕ → Option ℕ
closing quote bytes = closing_from quote false bytes

-- the text that the bytes inside mean: a backslash gives the byte behind it
abbrev pub meant_from : Bool → List ℕ → List ℕ
meant_from behind [] = []
meant_from true (b ∷ bytes) = b ∷ meant_from false bytes
meant_from false (b ∷ bytes) = elim (b == 92) [ true ↦ meant_from true bytes | false ↦ b ∷ meant_from false bytes ]

abbrev pub meant : List ℕ → List ℕ
meant bytes = meant_from false bytes

-- the place of the first backslash behind which neither the closing byte nor a backslash stands, counted from another
abbrev pub bad_escape_from : ℕ → Bool → ℕ → List ℕ → Option ℕ
bad_escape_from quote behind place [] = None
bad_escape_from quote true place (b ∷ bytes) =
    elim ((b == quote) || (b == 92)) [ true ↦ bad_escape_from quote false (place + 2) bytes | false ↦ Some place ]
bad_escape_from quote false place (b ∷ bytes) =
    elim (b == 92) [ true ↦ bad_escape_from quote true place bytes | false ↦ bad_escape_from quote false (place + 1) bytes ]

abbrev pub bad_escape : ℕ → List ℕ → Option ℕ
bad_escape quote bytes = bad_escape_from quote false 0 bytes

-- the place of the first byte that is no UTF-8
abbrev pub no_utf8 : List ℕ → Option ℕ
no_utf8 bytes = let valid = utf8_valid_len bytes in if nat_lt valid (length bytes) then Some valid else None

abbrev pub lesser : Option ℕ → Option ℕ → Option ℕ
lesser None other = other
lesser (Some n) None = Some n
lesser (Some n) (Some m) = if nat_lt m n then Some m else Some n

-- the place of the first fault of the bytes inside
abbrev pub fault_inside : ℕ → List ℕ → Option ℕ
fault_inside quote inside = lesser (bad_escape quote inside) (no_utf8 inside)

-- a text as it stands between the closing bytes, each of them and each backslash behind a backslash
abbrev pub escaped : ℕ → List ℕ → List ℕ
escaped quote [] = []
escaped quote (b ∷ bytes) = if (b == quote) || (b == 92) then 92 ∷ (b ∷ escaped quote bytes) else b ∷ escaped quote bytes
