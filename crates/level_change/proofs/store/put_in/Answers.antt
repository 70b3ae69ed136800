use Rattle.std.proofs.Common.{◌∙◌, sym, ap, subst}
use Rattle.std.specs.List.Sorted.{IsStrictlySortedBy}
use Rattle.std.specs.Map.{keys_of}
use Rattle.std.proofs.lemmas.Map.Keys.{sorted_tail}
use Rattle.level_change.specs.Links.{place_cmp, value_in}
use Rattle.level_change.proofs.HoldLemmas.{IsRest, past, put_step, put_part, rest_tail}
use Rattle.level_change.proofs.LinkLemmas.{err_of}
use Rattle.level_change.proofs.store.put_in.Goals as goal

pub late-preserved : goal.late-preserved
late-preserved c =
    let is = c.in-Some.ensures.steps in
    let place = c.in-Some.place.now in
    let value = c.in-Some.value.now in
    let rest = c.next.new.self in
    let sorted = subst (λ l. IsStrictlySortedBy place_cmp (keys_of l)) is c.late.invariant.1 in (
      (λ q. put_step c.late.base.entries c.put.new.base.entries place value rest (λ q. past q (place, value) rest sorted) c.in_ok-put.ensures.ok q ∙ ap (λ l. value_in c.late.base.entries l q) (sym is) ∙ c.late.invariant.0 q),
      sorted_tail place_cmp place (keys_of rest) sorted,
      rest_tail c.args.late.now.entries rest (place, value) (subst (IsRest c.args.late.now.entries) is c.late.invariant.2),
    )

pub returns-in_err-put-clause-err : goal.returns-in_err-put-clause-err
returns-in_err-put-clause-err c =
    err_of c.from_residual.result (λ q. ap (λ b. value_in b c.args.late.now.entries q) c.in_err-put.ensures.err
    ∙ put_part c.args.base.now.entries c.late.base.entries c.args.late.now.entries c.late.place-iterator c.late.invariant.2 c.late.invariant.0 q)
