use Rattle.std.proofs.Common.{sym, ◌∙◌}
use Rattle.chunk_negations.proofs.EqualityLemmas.{conditions_as_list, lengths_differ, same_seen}
use Rattle.chunk_negations.proofs.equality.+equality.Goals as goal

pub same_conds-returns-then-conds-others : goal.same_conds-returns-then-conds-others
same_conds-returns-then-conds-others t c =
    sym (conditions_as_list c.args.conds.now c.args.others.now ∙ lengths_differ same_seen c.args.conds.now c.args.others.now c.if-conds-others.true)

pub same_conds-conds-init : goal.same_conds-conds-init
same_conds-conds-init t c = sym (conditions_as_list c.args.conds.now c.args.others.now)
