use Rattle.std.proofs.Common.{◌≡◌, ◌∙◌, ◌<◌, ◌++◌, ◌∷◌, [], ap, sym, subst, List, ℕ, reverse}
use Rattle.std.proofs.lemmas.List.{reverse-append}
use Rattle.defs_soar.specs.Explanation.{with_numbers}
use Rattle.chunk_back.specs.Walk.{above_all, IsWalk}
use Rattle.chunk_back.proofs.WalkLemmas.{ends, falls, goes_on, starts}
use Rattle.chunk_back.proofs.walk.explaining.Goals as goal

pub walk-init : goal.walk-init
walk-init g c =
    let kept = g.K.Keeps.kept c.args.kept.now in
    let waiting : c.add_numbers.new.waiting ≡ with_numbers c.args.roots.now [] = c.in_ok-add_numbers.ensures ∙ ap (with_numbers c.args.roots.now) c.new-waiting.ensures in
    let found : c.new-found.result.items ≡ [] = c.new-found.ensures.items in
    subst (λ (ns : List ℕ). IsWalk kept c.args.roots.now c.add_numbers.new.waiting (reverse ns)) (sym found)
    (subst (λ (ns : List ℕ). IsWalk kept c.args.roots.now ns []) (sym waiting) (starts kept c.args.roots.now))

pub walk-smaller : goal.walk-smaller
walk-smaller g c =
    let kept = g.K.Keeps.kept c.args.kept.now in
    let less = falls kept c.args.roots.now c.requires.earlier c.take_greatest.new.self c.in-Some.number c.in-Some.ensures.greatest in
    subst (λ (ns : List ℕ). above_all c.add_makers_behind.new.waiting < above_all ns) (sym c.in-Some.ensures.taken)
    (subst (λ (ns : List ℕ). above_all ns < above_all (c.take_greatest.new.self ++ c.in-Some.number ∷ [])) (sym c.in_ok-add_makers_behind.ensures) less)

pub walk-preserved : goal.walk-preserved
walk-preserved g c =
    let kept = g.K.Keeps.kept c.args.kept.now in
    let before : IsWalk kept c.args.roots.now (c.take_greatest.new.self ++ c.in-Some.number ∷ []) (reverse c.walk.found.items) =
    subst (λ (ns : List ℕ). IsWalk kept c.args.roots.now ns (reverse c.walk.found.items)) c.in-Some.ensures.taken c.walk.invariant in
    let found : reverse c.push.new.self.items ≡ c.in-Some.number ∷ reverse c.walk.found.items = ap reverse c.in_ok-push.ensures.items ∙ reverse-append c.walk.found.items (c.in-Some.number ∷ []) in
    subst (λ (ns : List ℕ). IsWalk kept c.args.roots.now c.add_makers_behind.new.waiting ns) (sym found)
    (subst (λ (ns : List ℕ). IsWalk kept c.args.roots.now ns (c.in-Some.number ∷ reverse c.walk.found.items)) (sym c.in_ok-add_makers_behind.ensures)
    (goes_on kept c.args.roots.now c.requires.earlier c.take_greatest.new.self (reverse c.walk.found.items) c.in-Some.number before c.in-Some.ensures.greatest))

pub returns : goal.returns
returns g c =
    let kept = g.K.Keeps.kept c.args.kept.now in
    c.reverse.ensures.items ∙ ends kept c.args.roots.now (reverse c.walk.found.items)
    (subst (λ (ns : List ℕ). IsWalk kept c.args.roots.now ns (reverse c.walk.found.items)) c.in_default.ensures.none c.walk.invariant)
