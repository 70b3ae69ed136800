use Rattle.std.proofs.Common.{◌∙◌, sym}
use Rattle.rete_beta.proofs.asking.ask.Goals as goal

pub count-requires-clause-keyed : goal.count-requires-clause-keyed
count-requires-clause-keyed c = (c.requires.network.whole.numbered c.args.key c.in-Some.n).0 (sym c.find.ensures ∙ c.in-Some.is)
