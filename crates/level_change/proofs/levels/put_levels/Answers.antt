use Rattle.std.proofs.Common.{◌∙◌, sym, ap, subst}
use Rattle.std.specs.List.{IsDistinct}
use Rattle.std.specs.Map.{keys_of}
use Rattle.std.proofs.lemmas.Map.Keys.{IsDistinct-tail}
use Rattle.level_change.specs.Links.{id_eq, placed, value_in}
use Rattle.level_change.proofs.HoldLemmas.{IsRest, put_step, put_part, rest_tail}
use Rattle.level_change.proofs.LevelLemmas.{none_past, put_placed}
use Rattle.level_change.proofs.LinkLemmas.{err_of}
use Rattle.level_change.proofs.levels.put_levels.Goals as goal

pub late-preserved : goal.late-preserved
late-preserved c =
    let is = c.in-Some.ensures.steps in
    let id = c.in-Some.id.now in
    let level = c.in-Some.level.now in
    let rest = c.next.new.self in
    let apart = subst (λ l. IsDistinct id_eq (keys_of l)) is c.late.invariant.1 in (
      (λ q.
          put_step (placed c.late.base.entries) (placed c.put_level.new.base.entries) (id, (0, 0)) level (placed rest) (none_past (id, level) rest apart)
          (put_placed c.late.base.entries c.put_level.new.base.entries id level c.in_ok-put_level.ensures.ok) q
          ∙ ap (λ l. value_in (placed c.late.base.entries) (placed l) q) (sym is) ∙ c.late.invariant.0 q),
      IsDistinct-tail id_eq id (keys_of rest) apart,
      rest_tail (placed c.args.late.now.entries) (placed rest) ((id, (0, 0)), level) (subst (λ l. IsRest (placed c.args.late.now.entries) (placed l)) is c.late.invariant.2),
    )

pub returns-in_err-put_level-clause-err : goal.returns-in_err-put_level-clause-err
returns-in_err-put_level-clause-err c =
    err_of c.from_residual.result (λ q. ap (λ b. value_in (placed b) (placed c.args.late.now.entries) q) c.in_err-put_level.ensures.err
    ∙ put_part (placed c.args.base.now.entries) (placed c.late.base.entries) (placed c.args.late.now.entries) (placed c.late.id-iterator) c.late.invariant.2 c.late.invariant.0 q)
