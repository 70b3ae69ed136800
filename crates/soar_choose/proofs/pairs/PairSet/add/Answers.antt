use Rattle.std.proofs.Common.{◌∙◌, ◌||◌, ◌&&◌, ap}
use Rattle.soar_sym.specs.Equality.{symbol_eq}
use Rattle.soar_choose.specs.Told.{has_pair}
use Rattle.soar_choose.proofs.AddedLemmas.{pair_added}
use Rattle.soar_choose.proofs.pairs.PairSet.add.Goals as goal

pub returns : goal.returns
returns c = λ x y.
    pair_added c.self.inside.tree.keys c.insert.new.self.keys c.args.a c.args.b c.in_ok-insert.ensures.updates.0 x y
    ∙ ap (λ l. (symbol_eq c.args.a x && symbol_eq c.args.b y) || has_pair l x y) c.self.view_is
