use Rattle.std.proofs.Common.{subst}
use Rattle.defs_run.specs.Sessions.{first_session}
use Rattle.soar_run.specs.Spoken.{StandsFor}
use Rattle.soar_run.proofs.top.begin.Goals as goal

pub returns-in_ok-speaker-in-Some-clause-stands : goal.returns-in_ok-speaker-in-Some-clause-stands
returns-in_ok-speaker-in-Some-clause-stands c =
    subst (λ level. StandsFor c.in_ok-speaker-in-Some.speaker.session (first_session level)) c.level_of.ensures c.in_ok-speaker-in-Some.ensures.stands
