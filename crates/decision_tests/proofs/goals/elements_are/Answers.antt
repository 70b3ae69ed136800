use Rattle.decision_tests.proofs.goals.elements_are.Goals as goal

pub law-requires : goal.law-requires
law-requires c = c.in_ok-goals.ensures.known c.in_ok-table.table
