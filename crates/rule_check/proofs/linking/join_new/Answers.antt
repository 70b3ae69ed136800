use Rattle.std.proofs.Common.{sym}
use Rattle.rule_check.proofs.LinkingLemmas.{joined_again}
use Rattle.rule_check.proofs.linking.join_new.Goals as goal

pub returns-then-has-clause-joined : goal.returns-then-has-clause-joined
returns-then-has-clause-joined c = joined_again c.args.marks.now.marks c.args.number (sym c.if-has.ensures)
