use Rattle.command_orders.proofs.argument.argument_at.Goals as goal

pub returns-in-Int-clause-known : goal.returns-in-Int-clause-known
returns-in-Int-clause-known c = λ words known. c.integer_argument.ensures.known words

pub returns-in-Mark-clause-known : goal.returns-in-Mark-clause-known
returns-in-Mark-clause-known c = λ words known. c.mark_argument.ensures.known words
