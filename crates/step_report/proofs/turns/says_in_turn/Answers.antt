use Rattle.step_report.proofs.SayingLemmas.{says_both}
use Rattle.step_report.proofs.turns.says_in_turn.Goals as goal

pub returns : goal.returns
returns c = says_both
