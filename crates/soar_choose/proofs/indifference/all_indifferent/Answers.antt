use Rattle.std.proofs.Common.{◌∙◌}
use Rattle.soar_choose.proofs.IndifferenceLemmas.{all_same}
use Rattle.soar_choose.proofs.indifference.all_indifferent.Goals as goal

pub returns : goal.returns
returns c = c.all_told-all.ensures ∙ all_same c.args.rows.now c.in_ok-alone.alone c.in_ok-pairs.pairs c.in_ok-alone.ensures c.in_ok-pairs.ensures c.args.values.now
