-- What the steps of a reply come to: what is written up to the first limit, and that limit.
use Rattle.std.specs.Prelude.{ℕ, Bool, List, [], ◌∷◌, Option, Some, None}
use Rattle.defs_soar.specs.declared.limit.Which.{Which}
use Rattle.defs_soar.specs.Limits.{or_limit, first_passed}
use Rattle.defs_soar.specs.Trace.{Written, rendered, followed_by}
use Rattle.defs_run.specs.Sessions.{Told}

-- the limit that the steps pass first
abbrev pub limit_told : List Told → Option Which
limit_told [] = None
limit_told (t ∷ told) = or_limit (first_passed t.totals) (limit_told told)

-- what the steps before it write
abbrev pub front_told : ℕ → Bool → List Told → Written
front_told watch mid [] = record { text = []; mid_line = mid }
front_told watch mid (t ∷ told) =
    elim (first_passed t.totals) [
      | Some limit ↦ record { text = []; mid_line = mid }
      | None ↦ let w = rendered watch mid t.pieces in followed_by w (front_told watch w.mid_line told)
    ]
