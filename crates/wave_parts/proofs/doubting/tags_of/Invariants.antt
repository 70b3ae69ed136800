use Rattle.std.proofs.Common.{◌≡◌, map, take}
use Rattle.soar_wm.specs.declared.element.Element.{Element}
use Rattle.wave_parts.proofs.doubting.tags_of.Given as goal

abbrev pub invariant-elements : goal.invariant-elements
invariant-elements l = l.tags ≡ map (λ (e : Element). e.tag) (take l.element-index l.elements)
