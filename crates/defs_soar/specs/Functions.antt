-- The functions of actions (Soar manual, chapter 3, right-hand side functions; the causes are this engine's).
use Rattle.std.specs.Prelude.{ℕ, ◌+◌, ◌^◌, Bool, true, false, ◌==◌, not, nat_lt, ℤ, pos, negsuc, neg_ℤ, int_lt, ◌+ℤ◌, ◌-ℤ◌, ◌*ℤ◌, ◌/◌, ◌%◌, List, [], ◌∷◌, ◌++◌, length, Result, Ok, Err, if◌then◌else◌}
use Rattle.std.specs.Fmt.{decimal, signed_decimal}
use Rattle.soar_sym.specs.Equality.{symbol_eq}
use Rattle.soar_sym.specs.Words.{Texts, text_of}
use Rattle.soar_sym.specs.declared.symbol.Sym.{Sym}
use Rattle.soar_sym.specs.declared.symbol.Sym.TheVariants.{Ident, Word, Int}
use Rattle.soar_rule.specs.declared.action.Func.{Func}
use Rattle.soar_rule.specs.declared.action.Func.TheVariants as func
use Rattle.defs_text.specs.Runs.{fits_integer}
use Rattle.defs_soar.specs.declared.firing.DropCause.{DropCause}
use Rattle.defs_soar.specs.declared.firing.DropCause.TheVariants as cause

-- what a function gives: a symbol, a text that becomes a word, or the cause of none
pub data Computed : Type 0 where
  gives : Sym → Computed
  spells : List ℕ → Computed
  fails : DropCause → Computed

-- the text of a symbol, of a word without bars
abbrev pub plain_text : Texts → Sym → List ℕ
plain_text words (Ident letter number) = letter ∷ decimal number
plain_text words (Word word) = text_of words word
plain_text words (Int value) = signed_decimal value

-- ---- whole numbers, step by step from the left

abbrev pub fitting : ℤ → Result ℤ DropCause
fitting z = if fits_integer z then Ok z else Err cause.Overflow

abbrev pub step_with : (ℤ → ℤ → ℤ) → Result ℤ DropCause → Sym → Result ℤ DropCause
step_with f (Err e) s = Err e
step_with f (Ok z) (Int y) = fitting (f z y)
step_with f (Ok z) other = Err cause.NotANumber

abbrev pub fold_with : (ℤ → ℤ → ℤ) → Result ℤ DropCause → List Sym → Result ℤ DropCause
fold_with f z [] = z
fold_with f z (s ∷ symbols) = fold_with f (step_with f z s) symbols

abbrev pub number_of : Sym → Result ℤ DropCause
number_of (Int z) = Ok z
number_of other = Err cause.NotANumber

abbrev pub as_number : Result ℤ DropCause → Computed
as_number (Ok z) = gives (Int z)
as_number (Err e) = fails e

-- one value is negated, the others are taken from the first
abbrev pub difference : List Sym → Result ℤ DropCause
difference [] = Err cause.NotANumber
difference (s ∷ []) = step_with (λ zero z. neg_ℤ z) (Ok (pos 0)) s
difference (s ∷ t ∷ symbols) = fold_with (λ z y. z -ℤ y) (number_of s) (t ∷ symbols)

abbrev pub least_of : ℤ → ℤ → ℤ
least_of z y = if int_lt y z then y else z

abbrev pub greatest_of : ℤ → ℤ → ℤ
greatest_of z y = if int_lt z y then y else z

abbrev pub over_first : (ℤ → ℤ → ℤ) → List Sym → Result ℤ DropCause
over_first f [] = Err cause.NotANumber
over_first f (s ∷ symbols) = fold_with f (number_of s) symbols

-- ---- division, which truncates toward zero

abbrev pub size_of_integer : ℤ → ℕ
size_of_integer (pos n) = n
size_of_integer (negsuc n) = n + 1

abbrev pub is_below_zero : ℤ → Bool
is_below_zero (pos n) = false
is_below_zero (negsuc n) = true

abbrev pub signed_by : Bool → ℕ → ℤ
signed_by true n = neg_ℤ (pos n)
signed_by false n = pos n

abbrev pub differ : Bool → Bool → Bool
differ true b = not b
differ false b = b

abbrev pub quotient : ℤ → ℤ → ℤ
quotient z y = signed_by (differ (is_below_zero z) (is_below_zero y)) (size_of_integer z / size_of_integer y)

-- with the sign of the first
abbrev pub remainder : ℤ → ℤ → ℤ
remainder z y = signed_by (is_below_zero z) (size_of_integer z % size_of_integer y)

abbrev pub divided : (ℤ → ℤ → ℤ) → ℤ → ℤ → Result ℤ DropCause
divided f z y = if size_of_integer y == 0 then Err cause.ZeroDivisor else fitting (f z y)

abbrev pub divided_by : (ℤ → ℤ → ℤ) → Result ℤ DropCause → Result ℤ DropCause → Result ℤ DropCause
divided_by f (Err e) y = Err e
divided_by f (Ok z) (Err e) = Err e
divided_by f (Ok z) (Ok y) = divided f z y

abbrev pub of_two : (ℤ → ℤ → ℤ) → List Sym → Result ℤ DropCause
of_two f (s ∷ t ∷ []) = divided_by f (number_of s) (number_of t)
of_two f other = Err cause.NotANumber

-- ---- words

abbrev pub joined : Texts → List Sym → List ℕ
joined words [] = []
joined words (s ∷ symbols) = plain_text words s ++ joined words symbols

-- at most 1 MiB
abbrev pub as_word : List ℕ → Computed
as_word text = if nat_lt (2 ^ 20) (length text) then fails cause.TooLong else spells text

abbrev pub third_or_fourth : List Sym → Computed
third_or_fourth (a ∷ b ∷ c ∷ d ∷ []) = gives (if symbol_eq a b then c else d)
third_or_fourth other = fails cause.NotANumber

abbrev pub length_of_first : Texts → List Sym → Computed
length_of_first words (s ∷ []) = gives (Int (pos (length (plain_text words s))))
length_of_first words other = fails cause.NotANumber

abbrev pub absolute : ℤ → ℤ → ℤ
absolute zero z = pos (size_of_integer z)

abbrev pub of_one : (ℤ → ℤ → ℤ) → List Sym → Result ℤ DropCause
of_one f (s ∷ []) = step_with f (Ok (pos 0)) s
of_one f other = Err cause.NotANumber

-- ---- all of them

abbrev pub computed : Texts → Func → List Sym → Computed
computed words func.Plus symbols = as_number (fold_with (λ z y. z +ℤ y) (Ok (pos 0)) symbols)
computed words func.Times symbols = as_number (fold_with (λ z y. z *ℤ y) (Ok (pos 1)) symbols)
computed words func.Minus symbols = as_number (difference symbols)
computed words func.Div symbols = as_number (of_two quotient symbols)
computed words func.Mod symbols = as_number (of_two remainder symbols)
computed words func.Abs symbols = as_number (of_one absolute symbols)
computed words func.Min symbols = as_number (over_first least_of symbols)
computed words func.Max symbols = as_number (over_first greatest_of symbols)
computed words func.Concat symbols = as_word (joined words symbols)
computed words func.IfEq symbols = third_or_fourth symbols
computed words func.StrLen symbols = length_of_first words symbols
computed words func.Crlf symbols = spells (10 ∷ [])
