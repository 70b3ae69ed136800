use Rattle.std.proofs.Common.{◌≡◌, ◌∙◌, length, map, sym, arith}
use Rattle.std.proofs.lemmas.Result.{err_from_is_err_and}
use Rattle.defs_match.specs.Rules.{rule_seen}
use Rattle.learned_firings.proofs.TakenLemmas.{name_free, name_new, name_over, name_taken}
use Rattle.learned_firings.proofs.names.name_tried.Goals.{else-word_count-count-via-then-word_count-count+else-has_name, else-word_count-count-via-else-word_count-count}
use Rattle.learned_firings.proofs.names.name_tried.Goals as goal

pub returns-in_err-name-clause-answer : goal.returns-in_err-name-clause-answer
returns-in_err-name-clause-answer c =
    let p = err_from_is_err_and c.from_residual.result c.from_residual.ensures.1 in
    rw (p.1, p.2)
    (name_over c.args.table.now c.spelled.new.table (map rule_seen c.args.rules.now) c.args.front.now c.args.number c.law.ensures.table c.in_err-name.field-0.0 (omega (arith, c.ranges.number.fits)) c.in_err-name.ensures.answer)

pub returns-then-has_name-clause-answer : goal.returns-then-has_name-clause-answer
returns-then-has_name-clause-answer c =
    let same : length c.spelled.new.table ≡ length c.args.table.now = omega (arith, c.if-word_count-count.true, c.word_count.ensures, c.word_count-count.ensures) in
    name_taken c.args.table.now c.spelled.new.table (map rule_seen c.args.rules.now) c.args.front.now c.args.number c.law.ensures.table c.in_ok-name.name c.in_ok-name.ensures.answer same
    (sym c.has_name.ensures ∙ c.if-has_name.true)

pub returns-else-word_count-count-clause-answer : goal.returns-else-word_count-count-clause-answer
returns-else-word_count-count-clause-answer c =
    let words = c.args.table.now in
    let after = c.spelled.new.table in
    let rules = map rule_seen c.args.rules.now in
    let front = c.args.front.now in
    let named = c.in_ok-name.ensures.answer in (
      elim c.else-word_count-count.branch [
        | else-word_count-count-via-then-word_count-count+else-has_name w ↦
            name_free words after rules front c.args.number c.law.ensures.table c.in_ok-name.name named (sym w.has_name.ensures ∙ w.if-has_name.false)
        | else-word_count-count-via-else-word_count-count w ↦
            (let longer : length after ≡ length words → ⊥ = λ same. omega (arith, same, w.if-word_count-count.false, c.word_count.ensures, c.word_count-count.ensures) in
            name_new words after rules front c.args.number c.law.ensures.table c.in_ok-name.name named longer)
      ],
      named,
    )
