use Rattle.kept_triples.proofs.MarkLemmas.{fewer_told, nothing_less}
use Rattle.kept_triples.proofs.held.HeldTriples.remove.Goals as goal

pub returns-then-never_had-clause-has : goal.returns-then-never_had-clause-has
returns-then-never_had-clause-has c = nothing_less c.args.self.now c.args.triple (c.never_had.ensures c.if-never_had.true)

pub invariant_of-self : goal.invariant_of-self
invariant_of-self c = fewer_told c.self.inside.strange c.self.inside.set c.remove.new.self c.args.triple c.self.invariant c.remove.ensures.has
