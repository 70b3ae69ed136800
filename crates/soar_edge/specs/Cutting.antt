-- A stream of bytes cut into commands (the form is this engine's).
use Rattle.std.specs.Prelude.{ℕ, zero, suc, ◌-◌, ◌^◌, Bool, true, false, ◌||◌, ◌==◌, not, nat_lt, List, [], ◌∷◌, take, if◌then◌else◌}
use Rattle.std.specs.List.{prefix_len}

-- ---- where a command ends

-- what a byte stands in
pub data Inside : Type 0 where
  open_text comment bars string escaped_in_bars escaped_in_string : Inside

abbrev pub after_open : ℕ → Inside
after_open b = if b == 124 then bars else if b == 34 then string else if b == 35 then comment else open_text

-- a backslash takes the next byte with it
abbrev pub after_quoted : ℕ → Inside → Inside → ℕ → Inside
after_quoted quote here escaped b = if b == 92 then escaped else if b == quote then open_text else here

abbrev pub after_byte : Inside → ℕ → Inside
after_byte open_text b = after_open b
after_byte comment b = if b == 10 then open_text else comment
after_byte bars b = after_quoted 124 bars escaped_in_bars b
after_byte string b = after_quoted 34 string escaped_in_string b
after_byte escaped_in_bars b = bars
after_byte escaped_in_string b = string

-- how many braces are open; one that closes none counts for nothing
abbrev pub depth_after : Inside → ℕ → ℕ → ℕ
depth_after open_text depth b = if b == 123 then suc depth else if b == 125 then depth - 1 else depth
depth_after other depth b = depth

abbrev pub is_quoted : Inside → Bool
is_quoted open_text = false
is_quoted comment = false
is_quoted other = true

-- a newline ends a command outside of bars, strings and braces
abbrev pub is_end : Inside → ℕ → ℕ → Bool
is_end inside zero b = if is_quoted inside then false else b == 10
is_end inside (suc depth) b = false

-- how many bytes the command in front has, and whether it ends there
pub record Extent : Type 0 where
  pub size : ℕ
  pub ends : Bool

abbrev pub one_byte_more : Extent → Extent
one_byte_more e = record e { size = suc e.size }

-- at the end of the stream a command ends outside of bars, strings and braces
abbrev pub ends_there : Inside → ℕ → Bool
ends_there inside zero = not (is_quoted inside)
ends_there inside (suc depth) = false

-- `closed`: the stream ends behind these bytes
abbrev pub extent_from : Bool → Inside → ℕ → List ℕ → Extent
extent_from closed inside depth [] = record { size = 0; ends = if closed then ends_there inside depth else false }
extent_from closed inside depth (b ∷ bytes) =
    elim (is_end inside depth b) [
      | true ↦ record { size = 0; ends = true }
      | false ↦ one_byte_more (extent_from closed (after_byte inside b) (depth_after inside depth b) bytes)
    ]

-- ---- commands

-- what a stream holds: a command, one that does not end, or one of more than 1 MiB
pub data Cut : Type 0 where
  whole : ℕ → List ℕ → Cut  -- the number of its first line, from 1, and its bytes
  unfinished : ℕ → Cut
  too_long : Cut

abbrev pub is_space : ℕ → Bool
is_space b = (b == 32) || ((b == 9) || ((b == 13) || ((b == 12) || (b == 10))))

abbrev pub line_after : ℕ → ℕ → ℕ
line_after number b = if b == 10 then suc number else number

-- a command that goes on behind these bytes is none yet
abbrev pub cut_of : Bool → ℕ → List ℕ → Extent → List Cut → List Cut
cut_of closed number bytes e rest =
    if nat_lt (2 ^ 20) e.size then too_long ∷ []
    else if e.ends then whole number (take e.size bytes) ∷ rest
    else if closed then unfinished number ∷ []
    else []

-- The commands from a line on, where so many bytes still belong to the command or comment before.
abbrev pub cuts_from : Bool → ℕ → ℕ → List ℕ → List Cut
cuts_from closed skip number [] = []
cuts_from closed (suc skip) number (b ∷ bytes) = cuts_from closed skip (line_after number b) bytes
cuts_from closed zero number (b ∷ bytes) =
    elim (is_space b) [
      | true ↦ cuts_from closed 0 (line_after number b) bytes
      | false ↦ elim (b == 35) [
        | true ↦ cuts_from closed (prefix_len (λ c. not (c == 10)) bytes) number bytes
        | false ↦ let e = extent_from closed open_text 0 (b ∷ bytes) in cut_of closed number (b ∷ bytes) e (cuts_from closed (e.size - 1) (line_after number b) bytes)
      ]
    ]

-- the commands of bytes, behind which the stream ends or goes on
unfoldable pub cuts_of : Bool → List ℕ → List Cut
cuts_of closed bytes = cuts_from closed 0 1 bytes

-- ---- comments

abbrev pub is_comment : Inside → Bool
is_comment comment = true
is_comment other = false
