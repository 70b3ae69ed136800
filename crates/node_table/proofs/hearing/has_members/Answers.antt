use Rattle.node_table.proofs.HearLemmas.{members_none, is_so}
use Rattle.node_table.proofs.hearing.has_members.Goals as goal

pub returns-in-Join : goal.returns-in-Join
returns-in-Join c none =
    members_none c.args.step.now c.args.alpha.now c.args.number c.in-Join.field-0 c.in-Join.is c.requires.asked c.members.result.now (c.members.ensures c.requires.works) (c.is_empty.ensures.0 (is_so c.is_empty.result none))
