use Rattle.std.proofs.Common.{sym, ◌∙◌}
use Rattle.read_parts.specs.Using.{is_variable}
use Rattle.read_parts.proofs.UseLemmas.{all_among}
use Rattle.read_parts.proofs.names.named.Goals as goal

pub given-requires-clause-used : goal.given-requires-clause-used
given-requires-clause-used c =
    all_among (is_variable c.args.source.now.table.now c.args.source.now.uses.now.used) c.in-Word.word c.args.source.now.uses.now.variables.keys
    (sym c.contains.ensures ∙ c.if-not-contains.false) c.args.source.now.are.variables
