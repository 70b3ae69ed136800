use Rattle.std.proofs.Common.{◌∙◌}
use Rattle.soar_choose.proofs.BeatenLemmas.{beaten_same}
use Rattle.soar_choose.proofs.beaten.beaten.Goals as goal

pub returns : goal.returns
returns c = λ s. c.in_ok-beaten.ensures s ∙ beaten_same c.in_ok-held.held c.args.candidates.now c.in_ok-held.ensures c.args.rows.now s
