use Rattle.soar_record.specs.Recorded.{recorded as kept_in}
use Rattle.goal_dependence.proofs.RecordLemmas.{none_before}
use Rattle.goal_dependence.proofs.finding.Finding.for_goal.Goals as goal

pub add_counted-requires-clause-none_before : goal.add_counted-requires-clause-none_before
add_counted-requires-clause-none_before c =
    none_before (kept_in c.args.self.now.past.now) c.args.self.now.recorded.now c.recorded.at c.firing-item.result c.requires.new c.recorded-test.true c.firing-item.is
