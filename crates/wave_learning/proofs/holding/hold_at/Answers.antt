use Rattle.std.proofs.Common.{rules}
use Rattle.trace_details.specs.Details.{support_of}
use Rattle.wave_learning.proofs.HoldingLemmas.{both_ok}
use Rattle.wave_learning.proofs.RisingLemmas.{flagged_at}
use Rattle.wave_learning.proofs.holding.hold_at.Goals as goal

pub returns-in-Some-clause-held : goal.returns-in-Some-clause-held
returns-in-Some-clause-held c =
    both_ok c.hold_in.result
    (λ has held. flagged_at c.args.place c.args.number c.args.flags.now (support_of c.args.by) c.args.all.now.items c.in-Some.slot.now c.hold_in.new.slot c.requires (search rules) c.in-Some.ensures.value has held)
    c.hold_in.ensures.number c.hold_in.ensures.held
