-- Inputs, files and commands that are too long.
use Rattle.std.specs.Prelude.{◌≡◌, ℕ, ◌^◌, ◌<◌, ◌⊎◌, Bool, true, List, [], ◌∷◌, drop, length, Option, Some, None}
use Rattle.soar_edge.specs.Cutting.{Cut, whole, unfinished, too_long, cuts_of, extent_from, open_text}
use Rattle.soar_edge.specs.declared.filed.Filed.{Filed}
use Rattle.defs_run.specs.CommandLine.{script_of}
use Rattle.defs_run.specs.Sources.{file_named}

-- a command of more than 1 MiB is among these
abbrev pub HasLong : List Cut → Type 0
HasLong [] = ⊥
HasLong (too_long ∷ cuts) = Unit {0}
HasLong (whole number text ∷ cuts) = HasLong cuts
HasLong (unfinished number ∷ cuts) = HasLong cuts

-- from some byte on, a command goes on for more than 1 MiB
abbrev pub LongFrom : Bool → List ℕ → Type 0
LongFrom closed bytes = (at : ℕ) × (2 ^ 20 < (extent_from closed open_text 0 (drop at bytes)).size)

-- one of the commands of a stream has more than 1 MiB
abbrev pub HasLongCommand : List ℕ → Type 0
HasLongCommand bytes = HasLong (cuts_of true bytes) × LongFrom true bytes

-- it has more than 64 MiB, or one of its commands has more than 1 MiB
abbrev pub IsLongStream : List ℕ → Type 0
IsLongStream bytes = (2 ^ 26 < length bytes) ⊎ HasLongCommand bytes

-- so it is with a file that is found by its name
pub record HasLongFile (stock : List Filed) : Type 0 where
  pub name : List ℕ
  pub bytes : List ℕ
  pub found : file_named stock name ≡ Some bytes
  pub long : IsLongStream bytes

-- so it is with the input or a file; where a script is generated, with a command of that or a file
abbrev pub IsTooLong : Option ℕ → List Filed → List ℕ → Type 0
IsTooLong None stock bytes = IsLongStream bytes ⊎ HasLongFile stock
IsTooLong (Some n) stock bytes = HasLongCommand (script_of n) ⊎ HasLongFile stock
