use Rattle.std.proofs.Common.{◌≡◌, ◌∙◌, ◌++◌, List, ap, subst, take, drop}
use Rattle.soar_sym.specs.declared.symbol.Sym.{Sym}
use Rattle.touched_tags.specs.Looked.{CoverChanged, left_by}
use Rattle.touched_tags.proofs.ChangedLemmas.{covered}
use Rattle.touched_tags.proofs.changed_goals.changed_goals.Goals as goal

pub returns : goal.returns
returns c =
    let ids = c.in_ok-ids.ids in let before = c.args.before.now in let n = c.count_alike-alike.result in
    let P : List Sym → Type 0 = λ ids. CoverChanged before ids c.add_left-2.new.left in
    let alike : take n before ≡ take n ids = c.count_alike-alike.ensures.alike ∙ ap (take n) c.as_slice.ensures in
    let old = c.split_at.result.1.now in let new = c.split_at-2.result.1.now in
    let first = c.in_ok-add_left.ensures ∙ ap (λ (l : List Sym). l ++ left_by new old) c.new-changed.ensures in
    let all = c.in_ok-add_left-2.ensures ∙ ap (λ (l : List Sym). l ++ left_by old new) first in
    subst P c.in_ok-ids.ensures
    (covered before ids old new c.add_left-2.new.left n alike c.split_at.ensures.back (c.split_at-2.ensures.back ∙ ap (drop n) c.as_slice-2.ensures) all)
