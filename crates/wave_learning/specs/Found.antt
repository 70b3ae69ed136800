-- Firings among the entries of a wave. No public clause cites this.
use Rattle.std.specs.Prelude.{◌≡◌, ℕ, ◌==◌, List, [], ◌∷◌, Option, Some, None, if◌then◌else◌}
use Rattle.defs_soar.specs.History.{FiringOf}
use Rattle.defs_soar.specs.Laws.{IsIn}
use Rattle.defs_soar.specs.WaveAtHand.{Entry, Fresh, all_fresh, fired, noted}

abbrev pub number_in : Entry → List ℕ
number_in (fired x) = x.firing.number ∷ []
number_in (noted learning_event) = []

-- the firing of the entry, where it has this number
abbrev pub firing_at : ℕ → Entry → Option FiringOf
firing_at n (fired x) = if x.firing.number == n then Some x.firing else None
firing_at n (noted learning_event) = None

-- where there is such an entry
abbrev pub firing_of_entry : ℕ → Option Entry → Option FiringOf
firing_of_entry n None = None
firing_of_entry n (Some e) = firing_at n e

abbrev pub or_firing : Option FiringOf → Option FiringOf → Option FiringOf
or_firing (Some f) later = Some f
or_firing None later = later

abbrev pub first_firing : ℕ → List Entry → Option FiringOf
first_firing n [] = None
first_firing n (e ∷ entries) = or_firing (firing_at n e) (first_firing n entries)

-- a number tells its firing
abbrev pub AreTold : List Entry → Type 0
AreTold entries = (x y : Fresh) → IsIn x (all_fresh entries) → IsIn y (all_fresh entries) → x.firing.number ≡ y.firing.number → x.firing ≡ y.firing
