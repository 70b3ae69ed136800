use Rattle.std.proofs.Common.{List, ℕ, subst}
use Rattle.defs_run.specs.WholeReading.{file_name, read_source, source_order}
use Rattle.soar_cmd.specs.Answers.{IsCommandRead}
use Rattle.soar_cmd.proofs.ReadingLemmas.{judged_read}
use Rattle.soar_cmd.proofs.read.read_source.Goals as goal

pub returns-clause-reading : goal.returns-clause-reading
returns-clause-reading c =
    subst (λ (text : List ℕ). IsCommandRead c.args.table.now (read_source c.args.table.now text) c.source_order.result) c.as_slice.ensures
    (judged_read c.args.table.now (source_order c.as_slice.result.now (file_name c.as_slice.result.now)) c.source_order.result (c.source_order.ensures.judged c.args.table.now))

pub returns-clause-known : goal.returns-clause-known
returns-clause-known c = c.source_order.ensures.known c.args.table.now
