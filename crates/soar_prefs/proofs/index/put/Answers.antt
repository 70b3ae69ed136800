use Rattle.std.proofs.Common.{true, refl}
use Rattle.std.proofs.lemmas.Result.{on_ok_weaker, on_err_weaker}
use Rattle.soar_prefs.proofs.MarkLemmas.{at_firing, at_id, at_slot, at_triple, as_before}
use Rattle.soar_prefs.proofs.index.put.Goals as goal

pub returns-in-Firing-clause-ok : goal.returns-in-Firing-clause-ok
returns-in-Firing-clause-ok c = on_ok_weaker c.put.result (λ wrote. at_firing c.args.index.now (record c.args.index.now { firings = c.put.new.places }) c.args.number true c.args.key c.in-Firing.support c.in-Firing.firing c.in-Firing.is wrote refl refl refl) c.put.ensures.ok

pub returns-in-Firing-clause-err : goal.returns-in-Firing-clause-err
returns-in-Firing-clause-err c = on_err_weaker c.put.result (λ same. as_before c.args.index.now (record c.args.index.now { firings = c.put.new.places }) same refl refl refl) c.put.ensures.err

pub returns-in-Id-clause-ok : goal.returns-in-Id-clause-ok
returns-in-Id-clause-ok c = on_ok_weaker c.put-in-Id.result (λ wrote. at_id c.args.index.now (record c.args.index.now { ids = c.put-in-Id.new.places }) c.args.number true c.args.key c.in-Id.id c.in-Id.is wrote refl refl refl) c.put-in-Id.ensures.ok

pub returns-in-Id-clause-err : goal.returns-in-Id-clause-err
returns-in-Id-clause-err c = on_err_weaker c.put-in-Id.result (λ same. as_before c.args.index.now (record c.args.index.now { ids = c.put-in-Id.new.places }) refl same refl refl) c.put-in-Id.ensures.err

pub returns-in-Variablized-clause-ok : goal.returns-in-Variablized-clause-ok
returns-in-Variablized-clause-ok c = on_ok_weaker c.put-in-Variablized.result (λ wrote. at_slot c.args.index.now (record c.args.index.now { slots = c.put-in-Variablized.new.places }) c.args.number true c.args.key c.in-Variablized.id c.in-Variablized.attr c.in-Variablized.is wrote refl refl refl) c.put-in-Variablized.ensures.ok

pub returns-in-Variablized-clause-err : goal.returns-in-Variablized-clause-err
returns-in-Variablized-clause-err c = on_err_weaker c.put-in-Variablized.result (λ same. as_before c.args.index.now (record c.args.index.now { slots = c.put-in-Variablized.new.places }) refl refl same refl) c.put-in-Variablized.ensures.err

pub returns-in-Triple-clause-ok : goal.returns-in-Triple-clause-ok
returns-in-Triple-clause-ok c = on_ok_weaker c.put-in-Triple.result (λ wrote. at_triple c.args.index.now (record c.args.index.now { triples = c.put-in-Triple.new.places }) c.args.number true c.args.key c.in-Triple.id c.in-Triple.attr c.in-Triple.value c.in-Triple.is wrote refl refl refl) c.put-in-Triple.ensures.ok

pub returns-in-Triple-clause-err : goal.returns-in-Triple-clause-err
returns-in-Triple-clause-err c = on_err_weaker c.put-in-Triple.result (λ same. as_before c.args.index.now (record c.args.index.now { triples = c.put-in-Triple.new.places }) refl refl refl same) c.put-in-Triple.ensures.err
