use Rattle.std.proofs.Common.{false, refl}
use Rattle.soar_prefs.proofs.MarkLemmas.{at_firing, at_id, at_slot, at_triple}
use Rattle.soar_prefs.proofs.index.take.Goals as goal

pub returns-in-Firing : goal.returns-in-Firing
returns-in-Firing c = at_firing c.args.index.now (record c.args.index.now { firings = c.take.new.places }) c.args.number false c.args.key c.in-Firing.support c.in-Firing.firing c.in-Firing.is c.take.ensures refl refl refl

pub returns-in-Id : goal.returns-in-Id
returns-in-Id c = at_id c.args.index.now (record c.args.index.now { ids = c.take-in-Id.new.places }) c.args.number false c.args.key c.in-Id.id c.in-Id.is c.take-in-Id.ensures refl refl refl

pub returns-in-Variablized : goal.returns-in-Variablized
returns-in-Variablized c = at_slot c.args.index.now (record c.args.index.now { slots = c.take-in-Variablized.new.places }) c.args.number false c.args.key c.in-Variablized.id c.in-Variablized.attr c.in-Variablized.is c.take-in-Variablized.ensures refl refl refl

pub returns-in-Triple : goal.returns-in-Triple
returns-in-Triple c = at_triple c.args.index.now (record c.args.index.now { triples = c.take-in-Triple.new.places }) c.args.number false c.args.key c.in-Triple.id c.in-Triple.attr c.in-Triple.value c.in-Triple.is c.take-in-Triple.ensures refl refl refl
