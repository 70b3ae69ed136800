use Rattle.std.proofs.Common.{refl, sym, ◌∙◌, nat_eq}
use Rattle.read_parts.proofs.TextLemmas.{own_of_table}
use Rattle.read_parts.proofs.UseLemmas.{with_dollar, without_dollar}
use Rattle.read_parts.proofs.uses.add_variable.Goals as goal

pub returns-in_ok-push-2-clause-are : goal.returns-in_ok-push-2-clause-are
returns-in_ok-push-2-clause-are c =
    with_dollar c.args.table.now c.args.uses.now _ nat_eq c.args.word c.requires.are
    (record { own = own_of_table c.args.table.now c.args.word c.law.ensures.table c.requires.within; variables = c.in_ok-insert.ensures.keys; used = c.in_ok-push.ensures.ok })
    (sym c.begins_dollar.ensures ∙ c.if-begins_dollar.true) c.in_ok-push-2.ensures.ok

pub returns-else-begins_dollar-clause-are : goal.returns-else-begins_dollar-clause-are
returns-else-begins_dollar-clause-are c =
    without_dollar c.args.table.now c.args.uses.now _ nat_eq c.args.word c.requires.are
    (record { own = own_of_table c.args.table.now c.args.word c.law.ensures.table c.requires.within; variables = c.in_ok-insert.ensures.keys; used = c.in_ok-push.ensures.ok })
    (sym c.begins_dollar.ensures ∙ c.if-begins_dollar.false) refl
