use Rattle.std.proofs.Common.{sym}
use Rattle.command_orders.proofs.WordLemmas.{word_of_text}
use Rattle.command_orders.proofs.operand.word_symbol.Goals as goal

pub returns-clause-symbol : goal.returns-clause-symbol
returns-clause-symbol c = sym (word_of_text c.args.table.now c.args.word c.law.ensures.table c.requires)
