-- How the input is read.
use Rattle.std.specs.Prelude.{Bool, true, false, ◌≡◌, ℕ, ◌+◌, ◌^◌, ◌<◌, ◌≤◌, List, [], ◌++◌, length, take, drop, Option, Some, Result, Ok, Err}
use Rattle.soar_edge.specs.Cuts.{Uncut}
use Rattle.soar_edge.specs.Outside.{Rose}
use Rattle.command_runs.specs.declared.reading.Came.{Came}
use Rattle.command_runs.specs.declared.reading.Came.TheVariants as came
use Rattle.command_runs.specs.declared.reading.InputFault.{InputFault}
use Rattle.command_runs.specs.declared.reading.InputFault.TheVariants as fault

abbrev pub CauseOf : {T : Type 0} → ℕ → ℕ → Result T InputFault → Type 0
CauseOf before now (Err fault.Failed) = Rose before now
CauseOf before now (Err fault.NoMemory) = now ≡ before
CauseOf before now (Ok x) = now ≡ before

-- the count doesn't fall, and rises where the answer is Failed and nowhere else
pub record InputCause {T : Type 0} (before now : ℕ) (result : Result T InputFault) : Type 0 where
  pub later : before ≤ now
  pub cause : CauseOf before now result

-- a cutter was fed these bytes
abbrev pub IsFedWith : Uncut → Uncut → List ℕ → Type 0
IsFedWith old new piece = new ≡ record old { bytes = old.bytes ++ piece; fed = old.fed + length piece }

-- a cutter was told that the stream has ended
abbrev pub IsClosed : Uncut → Uncut → Type 0
IsClosed old new = new ≡ record old { closed = true }

-- what comes of a piece: it is fed whole, or up to the first 64 MiB of all, or there is none
abbrev pub FeedsPiece : List ℕ → Uncut → Uncut → ℕ → ℕ → Result Came InputFault → Type 0
FeedsPiece piece old new before now (Ok came.Bytes) = IsFedWith old new piece × (now ≡ before + length piece)
FeedsPiece piece old new before now (Ok came.TooMany) = (size : ℕ) × (size < length piece) × IsFedWith old new (take size piece) × (now ≡ before + size) × (now ≡ 2 ^ 26)
FeedsPiece piece old new before now (Ok came.Nothing) = (piece ≡ []) × IsClosed old new × (now ≡ before)
FeedsPiece piece old new before now (Err fault.NoMemory) = Unit {0}
FeedsPiece piece old new before now (Err fault.Failed) = ⊥

-- so many bytes were taken off what was left of the input, and so many of these were fed
pub record Feeds (left : List ℕ) (rest : Option (List ℕ)) (old new : Uncut) (before now count size : ℕ) : Type 0 where
  pub rest_is : rest ≡ Some (drop count left)
  pub within : count ≤ length left
  pub fed : IsFedWith old new (take size left)
  pub grown : now ≡ before + size

-- what comes of a read: all that was taken is fed, or a front of it up to the first 64 MiB of all, or the input has ended; a read that fails takes nothing
abbrev pub ReadsMore : List ℕ → Option (List ℕ) → Uncut → Uncut → ℕ → ℕ → Result Came InputFault → Type 0
ReadsMore left rest old new before now (Ok came.Bytes) = (count : ℕ) × Feeds left rest old new before now count count
ReadsMore left rest old new before now (Ok came.TooMany) = (count size : ℕ) × Feeds left rest old new before now count size × (size < count) × (now ≡ 2 ^ 26)
ReadsMore left rest old new before now (Ok came.Nothing) = (left ≡ []) × (rest ≡ Some []) × IsClosed old new × (now ≡ before)
ReadsMore left rest old new before now (Err fault.Failed) = rest ≡ Some left
ReadsMore left rest old new before now (Err fault.NoMemory) = Unit {0}

-- whether the input has ended
abbrev pub is_end : Came → Bool
is_end came.Nothing = true
is_end other = false
