use Rattle.std.proofs.Common.{◌∙◌}
use Rattle.soar_record.proofs.KeepingLemmas.{found_in_set}
use Rattle.soar_record.proofs.record.is_among.Goals as goal

pub returns : goal.returns
returns c = c.contains.ensures ∙ found_in_set c.args.number c.args.numbers.now.keys
