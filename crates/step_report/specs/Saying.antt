-- Events that are said at a watch level.
use Rattle.std.specs.Prelude.{◌≡◌, ℕ, Bool, List, ◌++◌}
use Rattle.soar_sym.specs.Words.{Texts}
use Rattle.defs_soar.specs.Events.{Event}
use Rattle.defs_soar.specs.Trace.{pieces_of, rendered}

-- the events were appended as they are written at a watch level, behind text that ended in the middle of a line or not
abbrev pub SaysEvents : ℕ → Texts → List Event → Bool → List ℕ → Bool → List ℕ → Type 0
SaysEvents watch words events mid before new_mid after =
    (after ≡ before ++ (rendered watch mid (pieces_of words events)).text) × (new_mid ≡ (rendered watch mid (pieces_of words events)).mid_line)

-- what is said in turn is said as one list
abbrev pub SaysInTurn : Type 0
SaysInTurn =
    (watch : ℕ) (words : Texts) (first second : List Event) (mid middle_mid last_mid : Bool) (before middle after : List ℕ)
    → SaysEvents watch words first mid before middle_mid middle → SaysEvents watch words second middle_mid middle last_mid after
    → SaysEvents watch words (first ++ second) mid before last_mid after
