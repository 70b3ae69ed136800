use Rattle.std.proofs.Common.{◌↔◌, ◌⊎◌, sym, subst, Option}
use Rattle.std.specs.Ordering.{nat_cmp}
use Rattle.std.specs.Cmp.Lexicographic.{slice_cmp}
use Rattle.std.specs.BTreeMap.{get}
use Rattle.std.proofs.lemmas.Result.{on_ok_weaker}
use Rattle.soar_wm.specs.declared.element.Element.{Element}
use Rattle.defs_match.specs.Laws.{IsIn}
use Rattle.join_parts.specs.Joins.{IsOfOne}
use Rattle.join_parts.proofs.serve.add_of_one.Goals as goal

pub returns-in-Some : goal.returns-in-Some
returns-in-Some c =
    on_ok_weaker c.add_joined.result
    (λ made x. subst (λ (o : Option Element). IsIn x c.add_joined.new.out.items ↔ (IsIn x c.args.out.now.items ⊎ IsOfOne c.args.p.now o (get (slice_cmp nat_cmp) c.args.memory.now.rows) x)) (sym c.in-Some.is) (made x))
    c.add_joined.ensures
