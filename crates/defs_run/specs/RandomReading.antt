-- How random words are read, which may be wider than other integers (the form is this engine's).
use Rattle.std.specs.Prelude.{ℕ, zero, suc, ◌+◌, ◌-◌, ◌^◌, Bool, nat_lt, ℤ, pos, negsuc, List, [], ◌∷◌, length, Option, Some, None, option_map, if◌then◌else◌}
use Rattle.defs_text.specs.Lexing.{integer, Piece, token, nothing, fault, Front, a_run, front_at, piece_of, run_of, after_run, begins_fraction, Lexed, with_token}
use Rattle.defs_text.specs.Lexing as lexing
use Rattle.defs_text.specs.Runs.{RunKind, a_number, run_kind, begins_digit, fits_integer}
use Rattle.defs_run.specs.Arguments.{Argument, number}
use Rattle.defs_run.specs.Orders.{Order, random}

-- an integer without a sign may be as large as 2^64 - 1
abbrev pub fits_random : List ℕ → ℤ → Bool
fits_random run (pos n) = if begins_digit run then nat_lt n (2 ^ 64) else fits_integer (pos n)
fits_random run (negsuc n) = fits_integer (negsuc n)

abbrev pub random_number : ℕ → List ℕ → List ℕ → ℤ → Piece
random_number place run after z =
    if begins_fraction after then fault (lexing.float_number place)
    else if fits_random run z then token (integer z) (length run) else fault (lexing.wide_number place)

abbrev pub random_run : ℕ → List ℕ → List ℕ → RunKind → Piece → Piece
random_run place run after (a_number z) other = random_number place run after z
random_run place run after kind other = other

abbrev pub random_piece : Front → ℕ → ℕ → List ℕ → Piece
random_piece a_run place b bytes =
    random_run place (run_of (b ∷ bytes)) (after_run (b ∷ bytes)) (run_kind (run_of (b ∷ bytes))) (piece_of a_run place b bytes)
random_piece other place b bytes = piece_of other place b bytes

-- as other tokens are cut, but for these integers
abbrev pub random_lexed : ℕ → ℕ → List ℕ → Lexed
random_lexed skip place [] = record { tokens = []; fault = None }
random_lexed (suc skip) place (b ∷ bytes) = random_lexed skip (suc place) bytes
random_lexed zero place (b ∷ bytes) =
    elim (random_piece (front_at b) place b bytes) [
      | token says count ↦ with_token (record { says = says; start = place; end = place + count }) (random_lexed (count - 1) (suc place) bytes)
      | nothing count ↦ random_lexed (count - 1) (suc place) bytes
      | fault e ↦ record { tokens = []; fault = Some e }
    ]

abbrev pub numbers_of : List Argument → Option (List ℕ)
numbers_of [] = Some []
numbers_of (number n ∷ arguments) = option_map (λ ns. n ∷ ns) (numbers_of arguments)
numbers_of (other ∷ arguments) = None

abbrev pub random_order : List Argument → Option Order
random_order [] = None
random_order (a ∷ arguments) = option_map random (numbers_of (a ∷ arguments))
