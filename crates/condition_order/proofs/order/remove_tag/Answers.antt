use Rattle.std.proofs.Common.{rules, ◌==◌}
use Rattle.std.specs.Prelude.{not}
use Rattle.std.proofs.lemmas.Fn.{filter_same}
use Rattle.soar_wm.specs.declared.element.Element.{Element}
use Rattle.condition_order.proofs.order.remove_tag.Goals as goal

pub returns : goal.returns
returns c = filter_same _ (λ (e : Element). not (e.tag == c.args.tag)) _ (λ e b f k. search rules) _ _ c.retain.ensures.filtered
