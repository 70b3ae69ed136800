use Rattle.std.proofs.Common.{◌∙◌, ap}
use Rattle.defs_soar.specs.Explanation.{with_number}
use Rattle.chunk_back.proofs.WaitingLemmas.{inserted}
use Rattle.chunk_back.proofs.waiting.Waiting.add.Goals as goal

pub returns : goal.returns
returns c = c.in_ok-insert.ensures.keys ∙ inserted c.args.number c.self.inside.numbers.keys ∙ ap (with_number c.args.number) c.self.view_is
