use Rattle.std.proofs.Common.{List, subst, sym, ◌∙◌}
use Rattle.defs_soar.specs.declared.choice.Scored.{Scored}
use Rattle.soar_choose.specs.Rows.{AreSumsWithin}
use Rattle.soar_choose.proofs.RangeLemmas.{scored_same, scored_within}
use Rattle.soar_choose.proofs.choosing.all_scored.Goals as goal

pub returns-clause-sums : goal.returns-clause-sums
returns-clause-sums c =
    let P : List Scored → Type 0 = AreSumsWithin in
    subst P (sym (c.in_ok-all.ensures ∙ scored_same c.args.rows.now c.in_ok-numeric.numeric c.in_ok-sums.sums c.in_ok-numeric.ensures c.in_ok-sums.ensures c.args.values.now))
    (scored_within c.args.rows.now c.args.values.now c.requires.few c.requires.range)
