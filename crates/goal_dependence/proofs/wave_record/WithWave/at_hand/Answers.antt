use Rattle.std.proofs.Common.{◌≡◌, ◌∙◌, ◌<◌, ◌++◌, false, take, length, Some, ap, sym, arith}
use Rattle.std.specs.Prelude.{slice_get}
use Rattle.defs_soar.specs.Explanation.{firing_of}
use Rattle.defs_soar.specs.History.{firing_seen}
use Rattle.soar_record.specs.Recorded.{recorded as kept_in}
use Rattle.goal_dependence.specs.Numbers.{has_number}
use Rattle.goal_dependence.specs.Remembered.{firings_of}
use Rattle.goal_dependence.proofs.RecordLemmas.{first_here}
use Rattle.goal_dependence.proofs.wave_record.WithWave.at_hand.Goals as goal

pub returns-in-Some : goal.returns-in-Some
returns-in-Some c =
    let past = kept_in c.args.self.now.past.now in
    let wave = c.args.self.now.wave.now in
    let r = c.in-Some.recorded.now in
    let at = c.args.self.now.at in
    let within : at < length wave = grind (arith, c.in-Some.ensures.lookup.0) in
    let is : r.firing.number ≡ c.args.number = rw c.deref.ensures at c.if-deref-number.true in
    let same : c.args.self.now.number ≡ r.firing.number = c.if-self-number.false ∙ sym is in
    let none : has_number (past ++ firings_of (take at wave)) r.firing.number ≡ false = ap (has_number (past ++ firings_of (take at wave))) (sym same) ∙ c.args.self.now.none_before in
    ap (λ f. Some (firing_seen f)) c.deref-in-Some.ensures
    ∙ first_here past wave at r within c.in-Some.ensures.lookup.1 none
    ∙ ap (λ n. slice_get (firing_of (past ++ firings_of wave) n) 0) is
