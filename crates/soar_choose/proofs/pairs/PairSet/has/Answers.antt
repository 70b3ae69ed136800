use Rattle.std.proofs.Common.{◌∙◌, ap}
use Rattle.soar_choose.specs.Told.{has_pair}
use Rattle.soar_choose.proofs.AddedLemmas.{pair_found}
use Rattle.soar_choose.proofs.pairs.PairSet.has.Goals as goal

pub returns : goal.returns
returns c = c.contains.ensures ∙ pair_found _ c.args.a c.args.b ∙ ap (λ l. has_pair l c.args.a c.args.b) c.self.view_is
