use Rattle.std.proofs.Common.{map}
use Rattle.std.proofs.lemmas.Result.{err_from_is_err_and}
use Rattle.defs_match.specs.Rules.{rule_seen}
use Rattle.learned_firings.proofs.NameLemmas.{first_over}
use Rattle.learned_firings.proofs.names.new_name.Goals as goal

pub returns-in_err-first-clause-answer : goal.returns-in_err-first-clause-answer
returns-in_err-first-clause-answer c =
    let p = err_from_is_err_and c.from_residual.result c.from_residual.ensures.1 in
    rw (p.1, p.2) (first_over c.args.table.now (map rule_seen c.args.rules.now) c.args.front.now c.args.last c.args.table.now c.in_err-first.field-0.0 c.in_err-first.ensures.answer)
