use Rattle.std.proofs.Common.{subst, sym}
use Rattle.soar_agent.specs.Numbered.{AreLabelsNumbered}
use Rattle.soar_agent.proofs.state.Session.new.Goals as goal

pub returns-clause-sound : goal.returns-clause-sound
returns-clause-sound g c = λ stands.
    let sound = c.in_ok-new.ensures.sound c.in_ok-new.ensures.standing in
    (c.in_ok-new.ensures.standing, sound.0, sound.1, subst (AreLabelsNumbered c.in_ok-new.field-0.parts.letters) (sym c.new-2.ensures) tt)
