use Rattle.std.proofs.Common.{◌≡◌, ◌∙◌, ap, sym, arith}
use Rattle.defs_run.specs.WholeReading.{without_end_blanks}
use Rattle.file_names.proofs.BlankLemmas.{end_dropped, end_kept}
use Rattle.file_names.proofs.blanks.without_end_blanks.Goals as goal

pub blanks-preserved : goal.blanks-preserved
blanks-preserved c = record {
  rest = sym (end_dropped c.in-Some.front.now c.in-Some.last.now (sym c.if-not-blank.ensures)) ∙ (ap without_end_blanks (sym c.in-Some.ensures.cases.0) ∙ c.blanks.invariant.rest);
  within = omega (arith, c.in-Some.ensures.cases.1, c.blanks.invariant.within);
}

pub returns-then-not-blank-clause-rest : goal.returns-then-not-blank-clause-rest
returns-then-not-blank-clause-rest c =
    let kept : without_end_blanks c.blanks.rest.now ≡ c.blanks.rest.now =
    ap without_end_blanks c.in-Some.ensures.cases.0 ∙ (end_kept c.in-Some.front.now c.in-Some.last.now (sym c.if-not-blank.ensures) ∙ sym c.in-Some.ensures.cases.0) in
    sym kept ∙ c.blanks.invariant.rest
