use Rattle.std.proofs.Common.{◌≡◌, ◌+◌, length, Err, sym, subst, arith}
use Rattle.std.proofs.lemmas.Bool.Decides.{nat_tests}
use Rattle.std.proofs.lemmas.Result.{err_from_is_err_and}
use Rattle.random_words.specs.Answers.{AreNumbersRead}
use Rattle.random_words.proofs.CutLemmas.{Cutting, advances, ends, stops}
use Rattle.random_words.proofs.cut.lex_random.Goals as goal

pub pieces-preserved : goal.pieces-preserved
pieces-preserved c =
    let table = c.cut_piece.new.table in
    let numbers = c.cut_piece.new.numbers in
    subst (λ rest. Cutting c.args.table.now table c.args.text.now rest (c.pieces.place + c.in_ok-count.count) numbers) (sym c.split_at.ensures.back)
    (advances _ _ _ _ _ _ _ _ _ c.pieces.invariant c.in_ok-count.ensures)

pub returns-in_err-count : goal.returns-in_err-count
returns-in_err-count c =
    let answer = AreNumbersRead c.args.table.now c.cut_piece.new.table c.args.text.now in
    let p = err_from_is_err_and c.from_residual.result c.from_residual.ensures.1 in
    subst answer (sym p.1) (subst (λ e. answer (Err e)) (sym p.2) (stops _ _ _ _ _ _ _ _ c.pieces.invariant c.in_err-count.ensures))

pub returns : goal.returns
returns c =
    let none : length c.pieces.rest.now ≡ 0 = grind (arith, nat_tests, c.pieces-test.ensures) in
    ends _ _ _ _ _ _ c.pieces.invariant none
