-- What is said behind what was said.
use Rattle.std.proofs.Common.{ℕ, Bool, List, ◌++◌, Result, Ok, Err, OnOk}
use Rattle.soar_sym.specs.Words.{Texts}
use Rattle.defs_soar.specs.Events.{Event}
use Rattle.step_report.specs.Saying.{SaysEvents, SaysInTurn}

pub says_behind : SaysInTurn → {T E : Type 0} (watch : ℕ) (words : Texts) (first second : List Event) (mid middle_mid last_mid : Bool) (before middle after : List ℕ) (r : Result T E)
    → SaysEvents watch words first mid before middle_mid middle → OnOk r (SaysEvents watch words second middle_mid middle last_mid after)
    → OnOk r (SaysEvents watch words (first ++ second) mid before last_mid after)
says_behind law watch words first second mid middle_mid last_mid before middle after (Ok done) h k = law watch words first second mid middle_mid last_mid before middle after h k
says_behind law watch words first second mid middle_mid last_mid before middle after (Err why) h k = tt
