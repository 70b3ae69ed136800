use Rattle.std.proofs.Common.{[], ◌∙◌, true, arith}
use Rattle.std.proofs.lemmas.Grind.{common_steps}
use Rattle.std.proofs.lemmas.List.{append-nil}
use Rattle.command_runs.proofs.CutterLemmas.{left_fed}
use Rattle.command_runs.proofs.stream.fed_cutter.Goals as goal

pub returns-clause-cuts : goal.returns-clause-cuts
returns-clause-cuts c = left_fed c.close.new.self true [] c.args.bytes.now (append-nil _ ∙ grind (arith, common_steps)) (grind (arith, common_steps))
