use Rattle.std.proofs.Common.{◌∙◌, sym}
use Rattle.open_instances.proofs.NotedLemmas.{others_stay}
use Rattle.outstanding.proofs.asking.look_again.Goals as goal

pub look-requires-clause-kept : goal.look-requires-clause-kept
look-requires-clause-kept g c q h e =
    c.touched.invariant.kept q
    (sym (others_stay c.touched.kept.touched c.pop.new.self c.in-Some.key c.in-Some.ensures.updates.2 q e) ∙ h)
