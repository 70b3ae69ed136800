-- Counts and their limit.
use Rattle.std.specs.Prelude.{◌≡◌, ℕ, ◌≤◌, ◌<◌, Result, Ok, Err}
use Rattle.defs_soar.specs.declared.limit.Which.TheVariants as which
use Rattle.soar_settle.specs.declared.stop.Stop.{Stop}
use Rattle.soar_settle.specs.declared.stop.Stop.TheVariants as stop

-- the count, where it is within the limit
abbrev pub Counts : ℕ → Result ℕ Stop → Type 0
Counts count (Ok n) = (n ≡ count) × (count ≤ 18446744073709551615)
Counts count (Err (stop.Limit limit)) = (limit ≡ which.Counts) × (18446744073709551615 < count)
Counts count (Err stop.NoMemory) = ⊥
