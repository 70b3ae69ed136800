-- How far the command in front reaches.
use Rattle.std.specs.Prelude.{◌≡◌, ℕ, ◌<◌, ◌≤◌, ◌^◌, Bool, true, false, List, ◌++◌, length}
use Rattle.soar_edge.specs.Cutting.{open_text, extent_from}
use Rattle.soar_edge.specs.Cuts.{MayFollow}
use Rattle.soar_edge.specs.Scanning.{IsScan}
use Rattle.soar_edge.specs.declared.scan.Scan.{Scan}
use Rattle.soar_edge.specs.declared.reach.Reach.{Reach}
use Rattle.soar_edge.specs.declared.reach.Reach.TheVariants as reach

-- it ends behind so many bytes, whatever may follow
pub record Reaches (front : List ℕ) (closed : Bool) (size : ℕ) : Type 0 where
  pub within : size ≤ length front
  pub few : size ≤ 2 ^ 20
  pub extent : (ends : Bool) (more : List ℕ) → MayFollow closed ends more → extent_from ends open_text 0 (front ++ more) ≡ record { size = size; ends = true }

-- all of its bytes were scanned, and it goes on behind them
pub record GoesOn (front : List ℕ) (closed : Bool) (scan : Scan) : Type 0 where
  pub held : IsScan front scan
  pub few : length front ≤ 2 ^ 20
  pub extent : extent_from closed open_text 0 front ≡ record { size = length front; ends = false }

-- it has more than 1 MiB, whatever follows
pub record IsLong (front : List ℕ) (scan : Scan) : Type 0 where
  pub held : IsScan front scan
  pub size : (ends : Bool) (more : List ℕ) → 2 ^ 20 < (extent_from ends open_text 0 (front ++ more)).size

-- how far it reaches, where the stream ends behind these bytes or goes on
abbrev pub IsReach : List ℕ → Bool → Reach → Type 0
IsReach front closed (reach.Ends size) = Reaches front closed size
IsReach front closed (reach.GoesOn scan) = GoesOn front closed scan
IsReach front closed (reach.TooLong scan) = IsLong front scan
