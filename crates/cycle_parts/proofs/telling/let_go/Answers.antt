use Rattle.std.proofs.Common.{◌≡◌, ◌∙◌, List, sym, ap, subst}
use Rattle.soar_wm.specs.declared.element.Element.{Element}
use Rattle.matching_laws.specs.Telling.{AreRemovable}
use Rattle.soar_settle.specs.Tagging.{without_each}
use Rattle.cycle_parts.proofs.TellingLemmas.{last_removable, last_without}
use Rattle.cycle_parts.proofs.telling.let_go.Goals as goal

pub element_goes-requires : goal.element_goes-requires
element_goes-requires g c =
    let held = g.M.Matcher.elements c.gone.matcher in
    let removable = subst (AreRemovable held) c.in-Some.ensures.cases.0 c.gone.invariant.2 in
    record { there = λ _. (last_removable c.in-Some.last.now c.in-Some.front.now held removable).0 }

pub gone-preserved : goal.gone-preserved
gone-preserved g c =
    let held = g.M.Matcher.elements c.gone.matcher in
    let last = c.in-Some.last.now in
    let front = c.in-Some.front.now in
    let removable = subst (AreRemovable held) c.in-Some.ensures.cases.0 c.gone.invariant.2 in
    let now = c.in_ok-element_goes.ensures.elements in (
      c.in_ok-element_goes.ensures.works.works,
      c.in_ok-element_goes.ensures.rules ∙ c.gone.invariant.1,
      subst (λ (left : List Element). AreRemovable left front) (sym now) (last_removable last front held removable).1,
      ap (λ (left : List Element). without_each left front) now ∙ sym (last_without last front held) ∙ ap (without_each held) (sym c.in-Some.ensures.cases.0) ∙ c.gone.invariant.3,
      λ live known. c.in_ok-element_goes.ensures.knows live (c.gone.invariant.4 live known),
    )
