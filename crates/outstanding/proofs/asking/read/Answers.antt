use Rattle.std.proofs.Common.{◌∙◌}
use Rattle.outstanding.proofs.ReadLemmas.{unfired_are, unmatched_are}
use Rattle.outstanding.proofs.asking.read.Goals as goal

pub returns-clause-unfired : goal.returns-clause-unfired
returns-clause-unfired c instances ordered was =
    c.in_ok-unfired.ensures.copies
    ∙ unfired_are instances c.args.live.now.list c.args.kept.now was c.requires.touched c.requires.counted ordered c.open_is_ordered.ensures

pub returns-clause-unmatched : goal.returns-clause-unmatched
returns-clause-unmatched c instances was = c.in_ok-of_keys.ensures ∙ unmatched_are instances c.args.live.now.list c.args.kept.now was c.requires.touched c.requires.counted
