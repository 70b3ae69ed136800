-- What failed, where something did, and how many files were asked for.
use Rattle.std.specs.Prelude.{◌≡◌, ℕ, zero, suc, ◌+◌, ◌≤◌, Option, Some, Result, Ok, Err}
use Rattle.soar_edge.specs.Files.{told}
use Rattle.soar_edge.specs.Outside.{Rose}
use Rattle.command_runs.specs.declared.fault.Broken.{Broken}
use Rattle.command_runs.specs.declared.fault.Broken.TheVariants as broken
use Rattle.command_runs.specs.declared.fault.Fault.{Fault}
use Rattle.command_runs.specs.declared.fault.Fault.TheVariants as fault

-- each count of faults rises where the answer is its fault, and nowhere else
abbrev pub ShelfCause : {T : Type 0} → ℕ → ℕ → Result T Fault → Type 0
ShelfCause before now (Err fault.Shelf) = Rose before now
ShelfCause before now other = now ≡ before

abbrev pub SinkCause : {T : Type 0} → ℕ → ℕ → Result T Fault → Type 0
SinkCause before now (Err fault.Sink) = Rose before now
SinkCause before now other = now ≡ before

-- how often the source, the shelf and the sink had failed
pub record Faults : Type 0 where
  pub source : ℕ
  pub shelf : ℕ
  pub sink : ℕ

-- what failed in a whole run, and nothing else did
abbrev pub Caused : {T : Type 0} → Faults → Faults → Result T Broken → Type 0
Caused before now (Ok x) = now ≡ before
Caused before now (Err broken.Source) = Rose before.source now.source × (now.shelf ≡ before.shelf) × (now.sink ≡ before.sink)
Caused before now (Err (broken.Run fault.Shelf)) = Rose before.shelf now.shelf × (now.source ≡ before.source) × (now.sink ≡ before.sink)
Caused before now (Err (broken.Run fault.Sink)) = Rose before.sink now.sink × (now.source ≡ before.source) × (now.shelf ≡ before.shelf)
Caused before now (Err (broken.Run fault.NoMemory)) = now ≡ before

-- what a shelf that told `first` tells after `more` further fetches
abbrev pub counted_on : ℕ → ℕ → Option ℕ
counted_on first zero = Some first
counted_on first (suc more) = told (first + suc more)

-- a part of a run raised the number of fetches from `before` to `now`, and the shelf counted along
pub record Fetched (before now : ℕ) (shelf_before shelf_now : Option ℕ) : Type 0 where
  pub later : before ≤ now
  pub most : before ≤ 1000 → now ≤ 1000
  pub counted : (first : ℕ) → shelf_before ≡ counted_on first before → shelf_now ≡ counted_on first now
