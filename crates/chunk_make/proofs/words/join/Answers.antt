use Rattle.std.proofs.Common.{◌<◌, ◌-◌, ◌^◌, ℕ, List, length, subst}
use Rattle.std.proofs.lemmas.Result.{err_from_is_err_and}
use Rattle.soar_sym.specs.Words.{with_text}
use Rattle.chunk_make.proofs.JoinLemmas.{too_long}
use Rattle.chunk_make.proofs.words.join.Goals as goal

pub returns-in_err-join_name-clause-spent : goal.returns-in_err-join_name-clause-spent
returns-in_err-join_name-clause-spent c =
    let p = err_from_is_err_and c.from_residual.result c.from_residual.ensures.1 in
    rw (p.1, p.2)
    (λ spent. too_long c.args.table.now c.names.table c.args.names.now c.names.name-index c.name-item.result c.names-test.true c.name-item.is c.names.invariant.words
    (subst (λ (name : List ℕ). 2 ^ 32 - 1 < length (with_text c.names.table name)) c.as_str.ensures (c.in_err-join_name.ensures.spent spent)))
