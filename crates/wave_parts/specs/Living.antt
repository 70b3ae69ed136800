-- The live firings after a wave.
use Rattle.std.specs.Prelude.{ℕ, Bool, ◌==◌, not, List, filter}
use Rattle.std.specs.List.{list_any}
use Rattle.defs_soar.specs.Agents.{LiveFiring}

-- the firing is of one of these numbers
abbrev pub has_left : List ℕ → LiveFiring → Bool
has_left gone l = list_any (λ number. number == l.number) gone

abbrev pub still_live : List ℕ → List LiveFiring → List LiveFiring
still_live gone live = filter (λ l. not (has_left gone l)) live
