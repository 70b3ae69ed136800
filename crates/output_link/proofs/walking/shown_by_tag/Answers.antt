use Rattle.std.proofs.Common.{◌≡◌, ◌∙◌, ◌+◌, ◌<◌, ◌≤◌, List, [], ◌∷◌, length, get_or, sym, ap, subst, arith}
use Rattle.soar_sym.specs.declared.symbol.Sym.{Sym}
use Rattle.soar_sym.specs.declared.symbol.Sym.TheVariants.{Ident}
use Rattle.defs_soar.specs.Architecture.{output_identifier}
use Rattle.defs_soar.specs.Levels.{with_reached}
use Rattle.level_graph.specs.Marks.{has_mark}
use Rattle.output_link.specs.Walking.{gone_on, kept_with, Tagged, Walked}
use Rattle.output_link.proofs.WalkLemmas.{walked_all, walked_first, walked_on}
use Rattle.output_link.proofs.walking.shown_by_tag.Goals as goal

pub reached-init : goal.reached-init
reached-init c =
    let walked = Walked (has_mark c.args.goals.now) c.args.memory.now.elements in
    let first : c.meet.new.reached ≡ output_identifier ∷ [] = c.in_ok-meet.ensures.reached ∙ ap (λ (l : List Sym). with_reached l output_identifier) c.new-reached.ensures in (
      c.in_ok-meet.ensures.met,
      subst (λ (l : List Sym). walked l 0 c.new-kept.result.entries) (sym first)
          (subst (λ (m : Tagged). walked (output_identifier ∷ []) 0 m) (sym c.new-kept.ensures.empty) (walked_first (has_mark c.args.goals.now) c.args.memory.now.elements c.law.ensures)),
    )

pub reached-preserved : goal.reached-preserved
reached-preserved c =
    let goals = has_mark c.args.goals.now in
    let elements = c.args.memory.now.elements in
    let reached = c.reached.reached in
    let kept = c.reached.kept.entries in
    let id : Sym = get_or c.as_slice.result.now c.reached.at (Ident 0 0) in
    let same : id ≡ get_or reached c.reached.at (Ident 0 0) = ap (λ (l : List Sym). get_or l c.reached.at (Ident 0 0)) c.as_slice.ensures in
    let within : c.reached.at < length reached = omega (arith, c.reached-test.true, c.len.ensures) in
    let is_reached = c.in_ok-go_on.ensures.reached ∙ ap (gone_on goals elements reached) same in
    let is_kept = c.in_ok-go_on.ensures.kept ∙ ap (kept_with goals elements kept) same in (
      c.in_ok-go_on.ensures.met,
      subst (λ (l : List Sym). Walked goals elements l (c.reached.at + 1) c.go_on.new.kept.entries) (sym is_reached)
          (subst (λ (m : Tagged). Walked goals elements (gone_on goals elements reached (get_or reached c.reached.at (Ident 0 0))) (c.reached.at + 1) m) (sym is_kept)
          (walked_on goals elements reached c.reached.at kept c.reached.invariant.1 within)),
    )

pub returns : goal.returns
returns c = λ ids tells.
    let past : length c.reached.reached ≤ c.reached.at = omega (arith, c.reached-test.false, c.len.ensures) in
    walked_all (has_mark c.args.goals.now) c.args.memory.now.elements c.reached.reached c.reached.at c.reached.kept.entries c.reached.invariant.1 past ids tells
