use Rattle.std.proofs.lemmas.Result.{err_from_is_err_and}
use Rattle.soar_read.proofs.JoinLemmas.{turn, failed, unlisted}
use Rattle.soar_read.proofs.joining.join_all.Goals as goal

pub returns-in_err-symbol : goal.returns-in_err-symbol
returns-in_err-symbol c =
    let p = err_from_is_err_and c.from_residual.result c.from_residual.ensures.1 in
    rw (p.1, p.2) (failed c.args.table.now c.names.table c.join.new.table c.args.names.now c.names.symbols c.names.name-index c.in_err-symbol.field-0.0 c.names-test.true c.names.invariant.joined c.in_err-symbol.ensures)

pub returns-in_err-push : goal.returns-in_err-push
returns-in_err-push c =
    let p = err_from_is_err_and c.from_residual-in_err-push.result c.from_residual-in_err-push.ensures.1 in
    rw (p.1, p.2) (unlisted c.args.table.now c.names.table c.join.new.table c.args.names.now c.names.symbols c.names.name-index c.names.invariant.joined c.in_ok-symbol.ensures.0)

pub names-preserved : goal.names-preserved
names-preserved c =
    let next = turn c.args.table.now c.names.table c.join.new.table c.args.names.now c.names.symbols c.push.new.self c.names.name-index c.in_ok-symbol.symbol
    c.names-test.true c.names.invariant.own c.names.invariant.joined c.in_ok-symbol.ensures c.in_ok-push.ensures.ok in
    record { own = next.0; joined = next.1 }
