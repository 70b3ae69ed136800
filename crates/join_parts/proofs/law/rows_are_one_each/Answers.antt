use Rattle.defs_match.specs.Rows.{rows}
use Rattle.join_parts.proofs.PrefixLemmas.{one_each}
use Rattle.join_parts.proofs.law.rows_are_one_each.Goals as goal

pub returns : goal.returns
returns c = λ cs w differ. one_each (rows cs w) (c.rows_differ.ensures cs w differ)
