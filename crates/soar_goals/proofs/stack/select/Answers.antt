use Rattle.std.proofs.Common.{◌∙◌, ap, slice_set}
use Rattle.defs_soar.specs.declared.goal.Goal.{Goal}
use Rattle.soar_goals.specs.Stack.{with_change, with_selected}
use Rattle.soar_goals.proofs.StackLemmas.{replaced}
use Rattle.soar_goals.proofs.stack.select.Goals as goal

pub returns : goal.returns
returns c =
    c.from_vec.ensures
    ∙ ap (λ (g : Goal). slice_set c.taken-all.result.items c.args.below (with_selected c.args.selection g)) c.index_mut.ensures.value
    ∙ replaced (with_selected c.args.selection) c.args.below c.taken-all.result.items c.index_mut.result.now
    ∙ ap (with_change c.args.below (with_selected c.args.selection)) c.taken-all.ensures.all
