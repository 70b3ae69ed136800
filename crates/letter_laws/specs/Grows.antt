-- The last number of each letter stays or rises.
use Rattle.std.specs.Prelude.{◌≡◌, ℕ, ◌+◌, ◌≤◌, Bool, List, length}
use Rattle.soar_sym.specs.Letters.{last_of, with_last}
use Rattle.soar_sym.specs.declared.symbol.Sym.{Sym}
use Rattle.defs_soar.specs.Agents.{Agent}
use Rattle.defs_soar.specs.Cycle.{cycle}
use Rattle.defs_soar.specs.Decision.{decided_by}
use Rattle.defs_soar.specs.Learning.{with_learning}
use Rattle.defs_soar.specs.Pending.{pending}
use Rattle.defs_soar.specs.Resettling.{resettled}
use Rattle.defs_soar.specs.Trimming.{Remains}
use Rattle.defs_soar.specs.Waves.{wave_of}
use Rattle.learning_laws.specs.LawfulAgents.{IsLawfulAgent, IsNumbered}

abbrev pub LettersGrow : List ℕ → List ℕ → Type 0
LettersGrow old new = (l : ℕ) → last_of old l ≤ last_of new l

-- so what was given stays given
abbrev pub GivenStayGiven : Type 0
GivenStayGiven = (old new : List ℕ) (s : Sym) → LettersGrow old new → IsNumbered old s → IsNumbered new s

-- a new identifier of a letter from A to Z
abbrev pub IdentifiersGrow : Type 0
IdentifiersGrow =
    (letters : List ℕ) (letter : ℕ) → length letters ≡ 26 → 65 ≤ letter → letter ≤ 90 → LettersGrow letters (with_last letters letter (last_of letters letter + 1))

abbrev pub SettlingGivesNone : Type 0
SettlingGivesNone = (a : Agent) (t : Remains) → (resettled a t).agent.names.letters ≡ a.names.letters

abbrev pub WavesGrow : Type 0
WavesGrow = (a : Agent) (proposing : Bool) → IsLawfulAgent a → LettersGrow a.names.letters (wave_of with_learning a (pending proposing a)).agent.names.letters

abbrev pub DecisionsGrow : Type 0
DecisionsGrow = (a : Agent) → IsLawfulAgent a → LettersGrow a.names.letters (decided_by a).agent.names.letters

abbrev pub CyclesGrow : Type 0
CyclesGrow = (a : Agent) → IsLawfulAgent a → LettersGrow a.names.letters (cycle decided_by with_learning a).agent.names.letters
