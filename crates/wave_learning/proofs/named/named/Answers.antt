use Rattle.std.proofs.Common.{◌∙◌, map, refl}
use Rattle.std.proofs.lemmas.Result.{err_from_is_err_and}
use Rattle.defs_match.specs.Rules.{rule_seen}
use Rattle.wave_learning.specs.Seen.{course_of, rule_made}
use Rattle.wave_learning.proofs.CountLemmas.{names_end, names_rule}
use Rattle.wave_learning.proofs.named.named.Goals as goal

pub returns-clause-answer : goal.returns-clause-answer
returns-clause-answer c =
    let r = rule_made c.args.rule in
    let now = course_of c.args.table.now c.args.going.now in
    let later = c.new_name.new.table in
    let n = names_rule r now (map rule_seen c.args.going.now.hand.program.rules) c.front_of.result.now c.last_of-last.result refl c.front_of.ensures c.last_of-last.ensures
    later (course_of later c.count.new.going) c.in_ok-name.name c.in_ok-name.ensures.answer (c.in_ok-count.ensures later) in
    (n.0, c.with_name.ensures ∙ n.1)

pub returns-in_err-name-clause-answer : goal.returns-in_err-name-clause-answer
returns-in_err-name-clause-answer c =
    let r = rule_made c.args.rule in
    let now = course_of c.args.table.now c.args.going.now in
    let later = c.new_name.new.table in
    let p = err_from_is_err_and c.from_residual.result c.from_residual.ensures.1 in
    rw (p.1, p.2)
    (names_end r now (map rule_seen c.args.going.now.hand.program.rules) c.front_of.result.now c.last_of-last.result refl c.front_of.ensures c.last_of-last.ensures
    later now c.in_err-name.field-0.0 c.in_err-name.ensures.answer)
