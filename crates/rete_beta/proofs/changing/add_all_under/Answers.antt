use Rattle.rete_beta.proofs.AgendaLemmas.{under_step, under_all}
use Rattle.rete_beta.proofs.changing.add_all_under.Goals as goal

pub numbers-preserved : goal.numbers-preserved
numbers-preserved c t = under_step c.args.numbers.now c.args.takers.now c.numbers.number-index c.numbers.agenda.keys c.add_under.new.agenda.keys c.args.agenda.now.keys t c.numbers-test.true (c.numbers.invariant t) (c.in_ok-add_under.ensures t)

pub returns : goal.returns
returns c t = under_all c.args.numbers.now c.args.takers.now c.numbers.number-index c.numbers.agenda.keys c.args.agenda.now.keys t c.numbers-test.false (c.numbers.invariant t)
